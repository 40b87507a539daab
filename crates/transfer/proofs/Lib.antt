pub mod Gathers
pub mod Fills
pub mod Plainly
