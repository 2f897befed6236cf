pub mod Single
pub mod Causes
pub mod Extended
pub mod Rounds
