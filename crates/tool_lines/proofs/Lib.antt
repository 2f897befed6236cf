mod Counted
pub mod Elements
pub mod Faults
pub mod FixedStops
pub mod Lines
pub mod Numbers
pub mod Prints
pub mod Stops
