pub mod Sets
pub mod Turns
pub mod Rowing
pub mod Estimates
