pub mod Keys
pub mod Kept
