pub mod Start
pub mod Framing
pub mod Answering
pub mod Demands
