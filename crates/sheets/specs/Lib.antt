pub mod Codes
pub mod Faults
pub mod Frames
pub mod Held
pub mod Judged
pub mod Moves
pub mod Scanned
