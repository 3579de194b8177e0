pub mod Rank
pub mod Better
pub mod Choice
