pub mod Needed
pub mod Known
pub mod Sweeping
pub mod Examples
