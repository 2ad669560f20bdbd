pub mod Describing
pub mod Offered
pub mod Described
pub mod Sealed
