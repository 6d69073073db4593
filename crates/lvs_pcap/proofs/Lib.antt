pub mod FileLemmas
pub mod Again
pub mod CountLemmas
pub mod RoundLemmas
pub mod FrameLemmas
pub mod WithinLemmas
