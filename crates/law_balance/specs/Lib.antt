pub mod CommittedRows
pub mod CommittedSenders
pub mod Accepted
pub mod Laws
