pub mod Sights
pub mod Turning
pub mod Alone
pub mod Entering
pub mod Resets
