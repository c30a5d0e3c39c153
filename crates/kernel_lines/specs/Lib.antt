pub mod HaveLines
pub mod KernelLines
pub mod Laws
pub mod Parts
pub mod Ready
