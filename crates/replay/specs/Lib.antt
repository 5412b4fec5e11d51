pub mod Tally
pub mod Day
pub mod Answer
