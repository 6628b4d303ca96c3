pub mod Passing
pub mod Going
pub mod Keeping
pub mod Talking
pub mod Both
