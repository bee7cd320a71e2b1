pub mod Bounds
pub mod Tables
pub mod Levels
pub mod Products
pub mod Slopes
