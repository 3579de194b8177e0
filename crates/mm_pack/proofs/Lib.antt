pub mod Places
pub mod Numbering
pub mod Rounds
pub mod Axes
pub mod Ends
pub mod At
