pub mod Kinds
pub mod Sets
pub mod Answers
pub mod Texts
pub mod Spelling
pub mod Numbers
