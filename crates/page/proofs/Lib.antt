pub mod Cursors
pub mod Pages
pub mod Texts
