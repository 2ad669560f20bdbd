pub mod Numbers
pub mod Judges
pub mod Asking
pub mod Running
pub mod Phrasing
pub mod Steps
pub mod Wholes
