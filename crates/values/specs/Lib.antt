pub mod Values
pub mod Facts
pub mod Shown
