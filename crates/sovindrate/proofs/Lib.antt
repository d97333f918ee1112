pub mod Listing
pub mod Splitting
pub mod Uniting
pub mod Marking
pub mod Keeping
