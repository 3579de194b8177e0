pub mod Offsets
pub mod Virtual
pub mod Lending
pub mod Sharing
pub mod Numbering
pub mod Owning
pub mod Counting
