pub mod Laws
pub mod Answers
pub mod File
pub mod Size
