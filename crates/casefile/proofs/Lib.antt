pub mod Gathered
pub mod Handed
pub mod Noting
pub mod Underway
pub mod Results
pub mod AsRead
