pub mod NodeDegrees
pub mod Asserted
pub mod Chosen
