pub mod Bounds
pub mod Changes
pub mod Finds
pub mod Packets
pub mod TooLong
pub mod Views
