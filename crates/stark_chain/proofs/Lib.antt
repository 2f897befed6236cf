mod Answering
mod Runs
