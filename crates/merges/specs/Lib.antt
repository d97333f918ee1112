pub mod Merges
pub mod Cells
pub mod Choices
pub mod Rowing
pub mod Building
