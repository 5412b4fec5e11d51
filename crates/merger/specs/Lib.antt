pub mod Answer
pub mod Events
pub mod Count
pub mod Pen
