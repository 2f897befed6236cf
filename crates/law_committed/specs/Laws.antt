-- What is proved of the definitions, by subject.
pub mod Values
pub mod Degrees
pub mod Selectors
pub mod Rows
pub mod BaseRows
pub mod Traces
pub mod Identity
pub mod IdentityDegree
pub mod Decided
pub mod Soundness
pub mod Counts
pub mod Batch
pub mod Opened
pub mod Quotient
pub mod Disjoint
pub mod BabyBearFields
pub mod Lookups
