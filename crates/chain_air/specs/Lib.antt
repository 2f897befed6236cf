pub mod Trees
pub mod Chain
pub mod Meanings
pub mod Generated
pub mod Laws
