pub mod BatchCheck
