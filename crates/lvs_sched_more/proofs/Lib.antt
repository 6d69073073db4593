pub mod FreeSlots
pub mod Rounds
pub mod Counts
pub mod Orders
pub mod Sharing
