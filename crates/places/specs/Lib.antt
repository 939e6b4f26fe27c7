pub mod Contents
pub mod Tables
pub mod Keeping
