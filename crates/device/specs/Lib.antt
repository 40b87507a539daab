pub mod Device
pub mod States
pub mod Responds
pub mod Laws
