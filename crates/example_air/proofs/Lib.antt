mod Balanced
mod Meeting
mod Pushed
mod Stated
mod Tables
