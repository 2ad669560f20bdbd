pub mod Fronts
pub mod Texts
pub mod Loops
pub mod Coded
pub mod Judged
pub mod Agreeing
pub mod Sound
