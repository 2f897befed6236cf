pub mod Job
pub mod Serves
pub mod Laws
