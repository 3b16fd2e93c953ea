pub mod Counting
pub mod Netlists
pub mod Parts
pub mod Walking
