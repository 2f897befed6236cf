mod Alike
mod Parts
mod Shape
mod Grinding
mod Opening
mod Identity
mod Whole
mod Zeros
