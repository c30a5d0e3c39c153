pub mod Blocks
pub mod Branches
