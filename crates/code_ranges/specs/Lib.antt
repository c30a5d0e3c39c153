pub mod Fits
pub mod Heights
pub mod Laws
pub mod Ready
pub mod ReadyStatements
pub mod Room
