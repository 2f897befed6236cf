pub mod Statement
pub mod Proof
pub mod Fitting
pub mod Words
pub mod Verdict
pub mod Laws
