pub mod Lists
pub mod Standing
pub mod Walking
pub mod NodeCounts
pub mod Rooting
pub mod Keeping
