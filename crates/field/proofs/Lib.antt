pub mod OneReport
pub mod Bounds
pub mod Once
pub mod Cards
