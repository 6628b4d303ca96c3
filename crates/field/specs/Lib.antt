pub mod Report
pub mod Closed
pub mod Card
