pub mod FileBalance
pub mod Nets
pub mod Rows
pub mod Senders
