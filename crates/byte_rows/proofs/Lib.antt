pub mod Ones
pub mod Orders
pub mod Numbers
pub mod Fillings
pub mod Joins
pub mod Stamps
