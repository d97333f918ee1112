pub mod Keys
pub mod Making
pub mod Facts
