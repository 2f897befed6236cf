pub mod Outside
pub mod JobBatch
pub mod JobAnswer
pub mod Laws
