pub mod Words
pub mod Programs
pub mod Rings
pub mod Layouts
pub mod Plain
pub mod Laws
