pub mod Placing
pub mod Filling
pub mod Turning
pub mod Taking
pub mod Numbers
pub mod Heading
