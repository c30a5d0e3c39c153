pub mod Alone
pub mod Chairs
pub mod Holdings
pub mod Kernels
pub mod Sessions
pub use Rattle.lab_kernels.specs.Meant
