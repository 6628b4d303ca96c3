pub mod Double
pub mod Runs
pub mod Cases
pub mod Scopes
pub mod Session
pub mod Quotients
