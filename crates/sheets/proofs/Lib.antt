pub mod Holding
pub mod Judging
pub mod Scanning
pub mod Heading
pub mod Joining
