pub mod Settings
pub mod Answer
