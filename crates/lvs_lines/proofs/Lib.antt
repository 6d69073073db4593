pub mod Splits
pub mod Cuts
