pub mod Rows
pub mod Blank
