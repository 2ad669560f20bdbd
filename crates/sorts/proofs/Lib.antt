pub mod Adding
pub mod Mapped
pub mod Placing
pub mod Refusing
pub mod Tabling
pub mod Wording
