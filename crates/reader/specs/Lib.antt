pub mod Judging
pub mod Saying
pub mod Stepping
pub mod Parsing
