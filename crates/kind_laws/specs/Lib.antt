pub mod Exact
pub mod Distance
pub mod Rounding
pub mod Comparing
pub mod Fitting
pub mod Dividing
