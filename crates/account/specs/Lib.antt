pub mod Characters
pub mod Printable
