pub mod Numbers
pub mod Lines
pub mod Listing
pub mod Written
