pub mod OneDue
pub mod Runs
pub mod Commands
mod Rows
pub mod Known
