pub mod Params
pub mod Known
