mod Points
mod Setup
mod Outcome
mod Answering
