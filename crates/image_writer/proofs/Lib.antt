pub mod Writes
pub mod Cells
pub mod Kids
pub mod Sizes
pub mod Measures
pub mod Roots
pub mod Rests
pub mod Saves
