pub mod Items
pub mod Reading
