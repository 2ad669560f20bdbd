pub mod Copies
pub mod Sames
pub mod Ordered
pub mod Texts
pub mod Prints
pub mod Kinded
