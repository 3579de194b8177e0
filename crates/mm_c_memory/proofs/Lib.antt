pub mod Halves
pub mod Blocks
pub mod Memories
pub mod Numbers
