pub mod Pending
pub mod Stacking
pub mod Adding
