pub mod Callers
pub mod Stopped
