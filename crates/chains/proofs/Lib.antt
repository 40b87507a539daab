pub mod Steps
pub mod Passes
pub mod Walks
pub mod Meanings
