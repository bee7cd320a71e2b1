pub mod Levels
pub mod Same
