pub mod Identity
pub mod OpenedRows
pub mod PeriodicValues
pub mod VerifierData
pub mod Laws
pub mod TableIdentity
pub mod MadeRows
