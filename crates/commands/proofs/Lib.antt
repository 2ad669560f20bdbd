pub mod Cuts
pub mod Readings
pub mod Shapes
pub mod Eaches
pub mod Results
pub mod Numerals
pub mod Meanings
pub mod Grammars
