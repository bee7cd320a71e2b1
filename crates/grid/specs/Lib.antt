pub mod Grid
pub mod Text
pub mod Thirds
