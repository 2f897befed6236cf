-- What is proved of the definitions, by subject.
pub mod Reads
pub mod TreesRead
pub mod Places
pub mod Degrees
pub mod Periods
pub mod Rows
pub mod Own
pub mod Logarithms
pub mod Fits
pub mod Fractions
pub mod Packing
pub mod Folders
pub mod Images
