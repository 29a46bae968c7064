pub mod Division
pub mod Divisors
