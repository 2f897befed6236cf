pub mod Matrix
pub mod Interpolation
pub mod Products
pub mod Laws
