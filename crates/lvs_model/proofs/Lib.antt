pub mod ListLemmas
pub mod CountedLemmas
pub mod OrderLemmas
