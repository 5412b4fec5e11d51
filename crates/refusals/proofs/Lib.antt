pub mod Judging
pub mod Admitted
