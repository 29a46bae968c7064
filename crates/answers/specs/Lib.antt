pub mod Runs
pub mod Listing
