pub mod Arrays
pub mod Assignments
pub mod Numbers
pub mod Parameters
pub mod ScopeOf
