pub mod Compress
pub mod TraceRow
pub mod HalfRounds
pub mod Generated
pub mod Reading
pub mod Laws
