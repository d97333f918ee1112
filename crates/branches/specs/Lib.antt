pub mod States
pub mod Branches
pub mod Hands
pub mod Handfuls
pub mod Asked
pub mod Compared
