pub mod Requests
pub mod Takes
pub mod Verbs
pub mod Words
