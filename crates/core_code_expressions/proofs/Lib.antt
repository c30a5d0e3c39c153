pub mod Arguments
pub mod Falls
pub mod Put
pub mod Ready
