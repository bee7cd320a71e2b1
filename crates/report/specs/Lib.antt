pub mod Outcome
pub mod Replies
pub mod Text
