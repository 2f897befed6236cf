pub mod Evaluations
pub mod QuotientRows
pub mod Chunks
pub mod Laws
