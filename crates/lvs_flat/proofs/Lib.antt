pub mod Updates
pub mod Leaving
pub mod Ordered
pub mod Given
pub mod Nothing
pub mod Swept
