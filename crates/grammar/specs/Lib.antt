pub mod Signs
pub mod Phrases
pub mod Grammar
pub mod Reading
