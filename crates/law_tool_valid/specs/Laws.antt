-- What is proved of the definitions, by subject.
pub mod Traced
pub mod Swap
pub mod Wheel
pub mod Compressions
pub mod Fits
pub mod Messages
pub mod Loads
pub mod Tables
pub mod Made
pub mod Valid
pub mod BabyBear
pub mod Program
