pub mod Sequence
pub mod Tables
