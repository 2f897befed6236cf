pub mod Answered
pub mod Assembled
