pub mod Faults
pub mod Arithmetic
pub mod Quotients
pub mod Whole
pub mod Single
pub mod SingleLaws
pub mod Singles
pub mod WholeLaws
