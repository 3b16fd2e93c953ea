pub mod Sound
pub mod Sealing
