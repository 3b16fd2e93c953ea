pub mod Lines
pub mod Fronts
pub mod Sole
pub mod Turns
pub mod RoundTrips
