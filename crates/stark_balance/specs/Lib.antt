pub mod Nets
pub mod Sender
pub mod Entries
pub mod Unlucky
pub mod Vanishing
pub mod Count
pub mod Batch
pub mod Laws
