mod BlockExits
mod BlockTrees
mod Mapped
pub mod Sequenced
