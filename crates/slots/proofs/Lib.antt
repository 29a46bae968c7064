pub mod Kept
pub mod SameSlots
pub mod Tick
