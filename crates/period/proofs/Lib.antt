pub mod Cycles
pub mod Leaps
pub mod FirstBack
