pub mod Kept
pub mod KeptArrivals
pub mod KeptEdges
pub mod KeptLists
pub mod KeptSteps
pub mod KeptValues
pub mod Served
pub mod Texts
mod Examples
