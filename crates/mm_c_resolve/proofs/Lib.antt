pub mod Numbered
pub mod Walk
pub mod Codes
pub mod Programs
