-- The text of a script: what the lines of a sheet mean together.
pub mod Script
pub mod Tree
pub mod Names
pub mod Apart
-- Which sheets are scripts.
pub mod Lists
pub mod Scoped
pub mod Fields
pub mod Around
pub mod Depth
pub mod IsScript
-- What the others are refused for.
pub mod Causes
-- How a program finds that out: nothing to believe.
pub mod Tests
-- What is proved, and worked examples.
pub mod Laws
pub mod RefusalCases
