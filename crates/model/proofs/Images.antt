-- Images: what reading them gives, and that nothing else is accepted. Assumes nothing.
pub mod Lists
pub mod Bits
pub mod Rising
pub mod Order
pub mod Gets
pub mod Round
pub mod Rows
pub mod Readings
pub mod Each
pub mod Nodes
pub mod Exact
