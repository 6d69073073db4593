pub mod Messages
pub mod Headers
pub mod Restored
pub mod Masked
pub mod Going
