pub mod Decode
pub mod Front
pub mod Unread
