pub mod Heads
pub mod Ahead
pub mod Counts
pub mod Loads
