pub mod Fronts
pub mod Levels
pub mod Rules
pub mod Capped
pub mod Filled
