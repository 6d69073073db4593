pub mod Folding
pub mod Keeping
pub mod Puts
pub mod WordSums
