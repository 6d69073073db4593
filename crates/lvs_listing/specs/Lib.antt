pub mod Texts
pub mod Savable
pub mod ExampleState
pub mod Grouped
