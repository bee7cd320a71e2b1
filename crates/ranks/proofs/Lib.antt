pub mod Changes
pub mod Counts
pub mod Digits
pub mod Words
pub mod Lowest
pub mod Sets
pub mod Collect
