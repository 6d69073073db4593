pub mod Chains
pub mod Seen
pub mod Keyed
pub mod Store
