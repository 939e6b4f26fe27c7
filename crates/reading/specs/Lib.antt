pub mod Placing
pub mod Reads
