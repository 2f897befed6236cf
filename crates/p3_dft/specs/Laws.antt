-- What is proved of the definitions, by subject.
pub mod Values
pub mod Inverse
pub mod RoundTrip
