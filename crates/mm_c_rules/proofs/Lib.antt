pub mod Arguments
pub mod Keeping
pub mod Deep
pub mod Own
pub mod Pairs
pub mod Sequence
pub mod Both
pub mod Rules
