pub mod Columns
pub mod Compressions
pub mod Laws
pub mod PrintedRows
pub mod RowText
pub mod RowWords
