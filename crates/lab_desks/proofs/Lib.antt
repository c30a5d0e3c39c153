pub mod Taking
pub mod Opened
pub mod Fronts
pub mod Behind
pub mod Set
