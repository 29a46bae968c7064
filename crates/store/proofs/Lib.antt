pub mod Put
pub mod Stored
