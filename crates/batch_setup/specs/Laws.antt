-- What is proved of the definitions, by subject.
pub mod Budgets
pub mod Chunks
pub mod Verdicts
pub mod Logarithms
pub mod OneWidth
pub mod Formed
