pub mod Binding
pub mod Counted
pub mod Drawing
pub mod Stage
