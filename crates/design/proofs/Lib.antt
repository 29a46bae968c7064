pub mod Tests
pub mod Reached
pub mod Ends
pub mod Designed
pub mod Once
pub mod Making
pub mod Size
