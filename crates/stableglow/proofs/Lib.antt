pub mod CutRead
pub mod ReadMessage
pub mod ReadRules
