pub mod Finding
pub mod Cuts
pub mod Reaching
pub mod Taking
