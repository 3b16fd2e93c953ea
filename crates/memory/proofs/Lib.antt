mod Counts
pub mod Accepted
pub mod Holds
pub mod Ranges
pub mod Singles
