pub mod Changes
pub mod Kept
pub mod Masquerade
pub mod Outer
pub mod Packets
pub mod Reading
