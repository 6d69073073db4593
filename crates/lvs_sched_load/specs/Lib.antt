pub mod Orders
pub mod Best
