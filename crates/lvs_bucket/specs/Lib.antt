pub mod Seen
pub mod Pairs
