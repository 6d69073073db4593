pub mod Keeping
pub mod TakingOver
pub mod KeepExamples
pub mod Releasing
pub mod ReleaseExamples
pub mod Saying
pub mod BookExamples
