pub mod Reading
pub mod Making
pub mod Frames
