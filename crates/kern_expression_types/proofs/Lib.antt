pub mod Bound
pub mod Lists
pub mod Misfits
pub mod Named
pub mod Pairs
pub mod Parameters
