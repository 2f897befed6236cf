pub mod Items
pub mod Preprocessed
pub mod TableSize
