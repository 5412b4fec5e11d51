pub mod Mode
pub mod Outcome
pub mod Refusal
pub mod Shapes
pub mod Sort
