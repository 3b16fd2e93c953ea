pub mod Continuing
pub mod Stacking
pub mod Sounding
pub mod Reckoning
pub mod Sole
