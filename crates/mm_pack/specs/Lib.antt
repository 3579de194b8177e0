pub mod Cells
pub mod Tables
pub mod Inside
pub mod Rounds
