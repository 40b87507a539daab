pub mod Values
pub mod Cuts
pub mod Splits
pub mod Texts
pub mod Frees
pub mod Trips
pub mod Bounds
