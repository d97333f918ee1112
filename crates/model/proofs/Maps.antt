-- Maps by their look-ups. Assumes nothing.
pub mod Found
pub mod Order
pub mod Tables
pub mod Edits
pub mod Joins
pub mod Crowds
