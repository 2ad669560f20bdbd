pub mod Reading
pub mod Building
pub mod Meaning
pub mod Picks
pub mod Picked
pub mod Resolving
pub mod Found
pub mod Placed
