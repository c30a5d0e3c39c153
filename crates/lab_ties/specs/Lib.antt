pub mod Acts
pub mod Settings
pub mod Steps
pub mod Ties
pub mod Judged
pub mod Finished
pub mod Laws
pub use Rattle.lab_kernels.specs.DoesAs
