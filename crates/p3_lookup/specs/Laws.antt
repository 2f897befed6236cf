-- What is proved of the definitions, by subject.
pub mod Terms
pub mod Vanish
pub mod Balance
pub mod Messages
pub mod Agreement
pub mod Buses
pub mod Packing
pub mod Places
pub mod Bound
pub mod Batch
pub mod PermutationRows
