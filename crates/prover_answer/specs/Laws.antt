pub mod Alike
pub mod Telling
pub mod Verdicts
