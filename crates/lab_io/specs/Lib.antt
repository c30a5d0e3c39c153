pub mod Causes
pub mod Page
pub mod Reading
pub mod Standard
pub mod Tape
pub mod Writing
