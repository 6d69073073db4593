pub mod Rows
pub mod Places
pub mod Lists
pub mod Pool
pub mod Dests
pub mod Serving
