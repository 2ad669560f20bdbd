pub mod Held
pub mod Numbered
pub mod Answering
pub mod Worded
pub mod Printed
