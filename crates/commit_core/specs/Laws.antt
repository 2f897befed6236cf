-- What is proved of the definitions, by subject.
pub mod Cosets
pub mod Each
pub mod Pairs
pub mod Parts
pub mod Periods
pub mod Repeated
pub mod Options
pub mod OneItem
pub mod Degrees
pub mod SelectorLaws
