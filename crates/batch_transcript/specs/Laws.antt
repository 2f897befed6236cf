-- What is proved of the definitions, by subject.
pub mod Phases
pub mod Matched
pub mod Draws
pub mod Encoded
pub mod Shapes
pub mod Fits
pub mod Runs
pub mod Landed
pub mod Buses
pub mod Equality
