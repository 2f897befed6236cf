-- What is proved of the definitions, by subject.
pub mod Pairs
pub mod Nets
pub mod NetCounts
pub mod Vanishing
pub mod Sums
pub mod Alphas
pub mod Betas
pub mod Batch
