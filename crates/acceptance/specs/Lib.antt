pub mod Sheet
pub mod Classes
pub mod Naming
pub mod Depths
pub mod Scopes
pub mod Verdict
pub mod Scripts
pub mod Readings
