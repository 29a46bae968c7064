pub mod Run
pub mod Records
pub mod Place
pub mod Compare
pub mod Decide
