pub mod Killing
