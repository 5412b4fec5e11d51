pub mod Bits
pub mod Whole
pub mod Change
pub mod Means
pub mod Did
pub mod Reading
