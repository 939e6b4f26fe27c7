pub mod Capacities
pub mod Forms
pub mod Levels
pub mod Turns
pub mod View
