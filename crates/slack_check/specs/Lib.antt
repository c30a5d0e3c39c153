pub mod Lines
pub mod Mains
