pub mod Steps
pub mod Outcome
pub mod Saying
pub mod Pieces
pub mod Lines
