pub mod Members
pub mod Named
