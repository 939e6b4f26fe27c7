pub mod Levels
pub mod Measuring
pub mod Recording
