pub mod Imaged
pub mod RoundTrips
