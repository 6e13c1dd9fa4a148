mod Examples
mod FileLaws
mod Headers
mod Same
mod Words
