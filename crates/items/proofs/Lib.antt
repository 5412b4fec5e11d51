pub mod Writing
pub mod Telling
pub mod Skipping
pub mod Straying
pub mod Hand
pub mod Between
