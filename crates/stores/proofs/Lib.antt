pub mod Accessing
mod Capped
mod Imaging
pub mod Memory
