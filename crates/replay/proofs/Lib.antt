pub mod Compared
pub mod Entries
pub mod Shown
pub mod Tallying
pub mod Replaying
pub mod ReadsBack
