pub mod Opposite
pub mod Held
pub mod Finished
pub mod Laws
pub mod Known
