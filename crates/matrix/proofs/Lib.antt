pub mod Laws
pub mod Powers
