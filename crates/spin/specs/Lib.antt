pub mod Spin
pub mod Known
