pub mod Does
pub mod Edges
pub mod Texts
pub mod Values
