pub mod ExitCodes
pub mod Words
pub mod FaultLines
