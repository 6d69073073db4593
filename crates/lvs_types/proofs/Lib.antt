pub mod LedBack
