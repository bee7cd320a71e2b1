pub mod Decide
pub mod Optimal
pub mod TakenRanks
pub mod Values
pub mod Chosen
pub mod Minimum
pub mod Takes
