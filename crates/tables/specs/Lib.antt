pub mod Models
pub mod Settling
pub mod Sweeping
pub mod Reading
