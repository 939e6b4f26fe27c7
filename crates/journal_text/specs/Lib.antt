pub mod Hex
pub mod Mistakes
pub mod Numbers
pub mod Scans
