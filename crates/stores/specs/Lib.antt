pub mod Answers
pub mod Lent
pub mod Tables
pub mod Images
pub mod Accesses
pub mod Texts
