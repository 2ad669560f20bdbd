pub mod Lists
pub mod Spelling
pub mod Lines
pub mod Grammar
pub mod Forms
pub mod Readings
