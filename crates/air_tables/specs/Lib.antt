pub mod Wheel
pub mod Laws
pub mod Sending
pub mod Swap
