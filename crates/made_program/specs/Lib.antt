pub mod MadeSources
