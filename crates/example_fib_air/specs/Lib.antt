pub mod Fib
pub mod Laws
