pub mod Loops
pub mod Laws
pub mod Last
