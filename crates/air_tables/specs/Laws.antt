-- What is proved of the definitions, by subject.
pub mod Wheel
pub mod Sending
