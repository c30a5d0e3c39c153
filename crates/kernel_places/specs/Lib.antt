pub mod Behind
pub mod Ends
pub mod Laws
pub mod OfSessions
pub mod Places
