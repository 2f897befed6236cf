mod Left
mod Batch
mod Tables
mod Files
mod Never
