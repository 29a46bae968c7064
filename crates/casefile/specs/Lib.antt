pub mod Reading
pub mod Gathered
