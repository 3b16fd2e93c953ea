pub mod Cursors
pub mod Faults
pub mod Pages
pub mod Texts
