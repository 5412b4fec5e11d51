pub mod Lists
pub mod Sweep
