pub mod Descriptors
pub mod Chains
pub mod Usable
pub mod Laws
