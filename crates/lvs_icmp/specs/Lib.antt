pub mod Sides
pub mod Recognised
