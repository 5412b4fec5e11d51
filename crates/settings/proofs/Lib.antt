pub mod EndedLines
pub mod Fields
pub mod Scanning
pub mod Choosing
pub mod Growing
pub mod Written
pub mod History
