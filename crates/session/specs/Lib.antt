pub mod Sessions
pub mod States
pub mod Runs
pub mod Promise
