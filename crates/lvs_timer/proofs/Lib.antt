pub mod ByDeadline
pub mod Kept
pub mod Due
pub mod Finding
pub mod Next
pub mod Below
