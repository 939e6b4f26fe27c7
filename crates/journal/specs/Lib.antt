pub mod Lines
pub mod Bindings
