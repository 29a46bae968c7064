pub mod Expecting
pub mod Drawn
