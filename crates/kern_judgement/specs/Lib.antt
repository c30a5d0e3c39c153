pub mod Fitting
pub mod Expressions
pub mod Statements
pub mod Programs
pub mod Told
