pub mod InsideOf
pub mod Parts
pub mod ReadyStatement
