pub mod Sheets
pub mod Marks
pub mod Closing
pub mod Commands
