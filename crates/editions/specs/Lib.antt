pub mod Words
pub mod Fields
pub mod Sorts
pub mod Editions
pub mod Answer
pub mod Program
