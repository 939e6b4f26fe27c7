pub mod Stores
pub mod Builds
pub mod Tables
pub mod Requests
pub mod Steps
pub mod Books
pub mod Histories
