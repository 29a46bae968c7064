pub mod Step
pub mod Look
