pub mod Ranks
pub mod Rising
