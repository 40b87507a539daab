pub mod Lines
pub mod Stores
