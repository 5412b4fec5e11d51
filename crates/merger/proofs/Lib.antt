pub mod Bools
pub mod Lists
pub mod Reading
pub mod Counting
pub mod Turning
pub mod Drafting
pub mod Answering
pub mod Laws
