mod Readings
mod Traces
mod Runs
mod Counted
