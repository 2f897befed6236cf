pub mod Columns
pub mod Combined
pub mod Halves
pub mod InPlace
pub mod PutRows
pub mod Weighed
