-- What every call keeps, and what holds of every account that is reached. Assumes nothing.
pub mod Steps
pub mod Invariants
pub mod Live
pub mod Effects
pub mod Names
pub mod Merges
