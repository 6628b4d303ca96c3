pub mod Cutting
pub mod Lines
pub mod Fields
pub mod Spelling
pub mod Refusals
pub mod Written
