pub mod Lines
pub mod Read
