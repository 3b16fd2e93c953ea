pub mod Fits
pub mod Piles
pub mod Beside
pub mod Places
pub mod Halves
