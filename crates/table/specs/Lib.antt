pub mod Boxes
pub mod Entries
pub mod Fronts
pub mod Rows
pub mod Sums
