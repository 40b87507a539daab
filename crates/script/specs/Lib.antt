pub mod Format
pub mod Commands
pub mod Parses
pub mod Shown
pub mod Laws
pub mod Examples
