pub mod Texts
pub mod Record
pub mod Message
pub mod Pieces
pub mod Answer
pub mod Written
pub mod Spot
