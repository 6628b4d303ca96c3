pub mod Sorts
pub mod Refusals
pub mod Ranges
pub mod Lines
pub mod Reading
