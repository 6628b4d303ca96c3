pub mod Lengths
pub mod Globals
