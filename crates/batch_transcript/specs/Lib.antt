pub mod BatchScript
pub mod Running
pub mod Single
pub mod Fits
pub mod Shapes
pub mod Grinding
pub mod Buses
pub mod Laws
