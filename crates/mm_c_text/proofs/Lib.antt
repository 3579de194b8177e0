pub mod Suffix
pub mod Firsts
pub mod Left
