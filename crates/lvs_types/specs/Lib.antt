pub mod Settings
pub mod Limits
pub mod Protocols
pub mod Methods
pub mod StateNumbers
pub mod Schedulers
pub mod Transport
pub mod Thresholds
