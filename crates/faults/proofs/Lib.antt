pub mod Endings
pub mod Known
