pub mod Answer
pub mod FileReadings
pub mod FileTrees
pub mod Laws
pub mod MatrixTrees
pub mod OpeningReadings
pub mod OpeningTrees
pub mod TableTrees
