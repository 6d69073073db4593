pub mod Acting
pub mod Ends
pub mod Following
pub mod Learning
pub mod Pairing
pub mod Playing
pub mod Rule
pub mod Sides
