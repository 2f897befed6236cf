pub mod Commitment
pub mod PlainSetting
pub mod CommittedBatch
pub mod Meaning
pub mod OpenedBatch
pub mod UnluckyCounts
pub mod Swapped
pub mod Laws
