mod Granted
mod Joined
mod Made
mod Stated
