pub mod Fresh
pub mod Due
