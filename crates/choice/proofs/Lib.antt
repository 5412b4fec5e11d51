pub mod Records
pub mod Forms
pub mod Scanning
pub mod Spelling
pub mod Choosing
