pub mod Turns
pub mod Sees
pub mod Entries
pub mod Refusals
