-- What is proved of the definitions, by subject.
pub mod Step
pub mod Rounds
pub mod Bits
pub mod Row
pub mod TraceRow
pub mod Reads
pub mod Degree
pub mod Count
pub mod Generated
pub mod Output
