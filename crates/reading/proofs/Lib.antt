pub mod Naming
pub mod Entrypoint
