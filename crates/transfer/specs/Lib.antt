pub mod Requests
pub mod Responses
pub mod Laws
