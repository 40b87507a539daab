pub mod Sizes
pub mod Prints
pub mod Steps
pub mod Running
