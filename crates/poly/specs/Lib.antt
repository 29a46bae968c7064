pub mod WellFormed
pub mod Polynomial
