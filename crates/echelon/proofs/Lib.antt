pub mod Sums
pub mod Clearing
pub mod Relating
pub mod Front
