pub mod Heads
pub mod Records
pub mod Writes
