pub mod Written
pub mod Settling
