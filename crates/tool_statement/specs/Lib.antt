pub mod Config
pub mod StatedTables
