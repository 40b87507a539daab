pub mod Binds
pub mod Bytes
pub mod Stores
pub mod Meanings
