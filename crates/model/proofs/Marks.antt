-- The marks of a call's result: which they are, how many are new, and what they stand for. Assumes nothing.
pub mod Members
pub mod Numbers
pub mod Keys
pub mod News
pub mod Prefixes
pub mod Wells
