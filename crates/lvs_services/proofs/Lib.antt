pub mod Same
pub mod Updates
pub mod Apart
