pub mod Serving
pub mod Promises
pub mod Histories
pub mod Meanings
pub mod Example
