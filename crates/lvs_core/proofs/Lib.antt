pub mod Joined
pub mod Numbered
pub mod Taken
pub mod Begun
pub mod Answered
pub mod LawSteps
