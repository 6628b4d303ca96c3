pub mod Faults
pub mod Endings
pub mod Known
