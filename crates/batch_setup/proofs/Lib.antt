pub mod Instances
pub mod Items
pub mod Naturals
pub mod Masks
pub mod Committed
pub mod Zeros
