pub mod Refusals
pub mod Bench
pub mod Steps
pub mod Runs
