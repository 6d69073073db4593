pub mod Takes
pub mod Filling
pub mod Evenness
