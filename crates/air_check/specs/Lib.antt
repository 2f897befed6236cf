pub mod Values
pub mod Checked
pub mod Laws
