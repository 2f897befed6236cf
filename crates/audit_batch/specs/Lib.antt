pub mod Asked
pub mod Named
pub mod Parts
pub mod Shape
pub mod Audit
pub mod Opened
pub mod Report
pub mod Laws
