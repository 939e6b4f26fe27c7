pub mod Work
pub mod Operations
pub mod Parts
pub mod Shortcuts
pub mod Calls
pub mod Restricting
