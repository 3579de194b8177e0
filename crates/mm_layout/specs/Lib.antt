pub mod Regions
pub mod Cells
pub mod Laws
pub mod Layouts
pub mod Kept
