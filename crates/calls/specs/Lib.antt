pub mod Causes
pub mod Globals
pub mod Openings
pub mod History
pub mod Answers
pub mod Standing
pub mod Laws
