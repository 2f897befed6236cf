pub mod Demo
pub mod DemoAnswer
pub mod Laws
