pub mod Words
pub mod Places
pub mod Traces
pub mod Readings
pub mod Answers
pub mod Laws
