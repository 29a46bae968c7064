pub mod Laws
pub mod Inverses
pub mod InverseSteps
pub mod Prime
pub mod LowWord
