-- What is proved of the definitions, by subject.
pub mod Singles
pub mod Challenges
pub mod ShapeOf
