pub mod Acts
pub mod Judging
pub mod Kinds
pub mod Queues
pub mod Texts
pub mod Walks
