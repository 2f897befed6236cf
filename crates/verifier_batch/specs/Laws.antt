-- What is proved of the definitions.
pub mod Named
pub mod Parts
pub mod Singles
