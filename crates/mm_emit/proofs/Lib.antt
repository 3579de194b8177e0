pub mod Programs
pub mod Translated
