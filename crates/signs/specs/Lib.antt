pub mod Spoken
pub mod Reached
