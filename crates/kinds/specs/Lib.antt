pub mod Apart
pub mod Bits
pub mod Orders
pub mod Stereos
pub mod Sums
