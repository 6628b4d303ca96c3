pub mod Rows
pub mod Commas
pub mod Spelled
pub mod Placed
