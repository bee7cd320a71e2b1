pub mod Among
pub mod Arranged
pub mod Firsts
pub mod Numbers
pub mod Ranked
