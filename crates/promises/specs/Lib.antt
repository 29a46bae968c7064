pub mod Run
pub mod Figures
pub mod Additions
pub mod CallRun
pub mod Sheet
pub mod Wrong
pub mod Refused
pub mod Writing
