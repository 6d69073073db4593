pub mod Agree
pub mod Seen
pub mod Taking
pub mod Laws
