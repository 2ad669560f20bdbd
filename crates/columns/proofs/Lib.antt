pub mod Places
pub mod Chains
pub mod Trees
pub mod Lookups
pub mod Alike
