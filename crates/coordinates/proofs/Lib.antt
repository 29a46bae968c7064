pub mod Laid
pub mod Ticks
pub mod Parts
pub mod Along
pub mod Sums
pub mod Front
