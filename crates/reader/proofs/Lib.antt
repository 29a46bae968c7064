pub mod Look
pub mod Stepping
pub mod Steps
