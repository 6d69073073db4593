pub mod Rising
pub mod Timed
pub mod Listing
