pub mod Ascii
pub mod Counting
pub mod Pairs
