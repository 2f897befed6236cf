pub mod Before
pub mod Unlucky
pub mod Streams
pub mod Elements
pub mod Laws
