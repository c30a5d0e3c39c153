pub mod Functions
pub mod Laws
pub mod Lawful
pub mod Parts
pub mod Stands
