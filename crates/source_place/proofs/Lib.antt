mod Examples
mod TokenPlaces
