mod State
mod Laws
mod Bridge
mod Places
mod Follow
pub mod Loop
