pub mod Codec
pub mod RoundTrip
