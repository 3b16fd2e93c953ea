mod Measuring
pub mod Piles
pub mod Sides
