pub mod Openings
pub mod Acts
pub mod Played
pub mod Locked
pub mod Works
pub mod Seats
pub mod Rounds
