pub mod Tries
pub mod Runs
pub mod Alike
pub mod Done
