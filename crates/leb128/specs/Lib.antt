pub mod Encoding
pub mod Decoding
pub mod Written
pub mod RoundTrip
pub mod Examples
pub mod Text
