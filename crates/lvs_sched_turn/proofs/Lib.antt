pub mod Placing
pub mod Turns
pub mod Offers
pub mod Divisors
