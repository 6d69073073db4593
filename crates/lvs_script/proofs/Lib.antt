pub mod LineLemmas
pub mod Numbered
pub mod Numbers
pub mod Planned
