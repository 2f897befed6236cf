pub mod Counts
pub mod Fixed
pub mod Laws
pub mod Texts
pub mod WholeText
