pub mod Fields
pub mod Codable
pub mod Sheets
