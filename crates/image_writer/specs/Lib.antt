pub mod Puts
pub mod Nodes
pub mod Saved
