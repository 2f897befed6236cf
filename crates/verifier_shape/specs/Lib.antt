pub mod ShapeChecks
pub mod Laws
