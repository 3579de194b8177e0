pub mod Choosing
pub mod Ends
pub mod Given
pub mod Loops
pub mod Sizes
