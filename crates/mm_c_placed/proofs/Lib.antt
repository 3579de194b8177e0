pub mod Views
pub mod Deep
