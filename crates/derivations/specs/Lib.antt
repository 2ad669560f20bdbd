pub mod Accepted
pub mod Refused
pub mod Parts
pub mod StepsSoFar
pub mod Examples
