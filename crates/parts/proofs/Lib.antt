pub mod Exec
pub mod Lines
pub mod Known
