pub mod Naming
pub mod Scanning
pub mod Tables
pub mod Taking
