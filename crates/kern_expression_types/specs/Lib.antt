pub mod Answers
pub mod Before
pub mod Expressions
pub mod Fits
pub mod FunctionNames
pub mod KnownOf
pub mod Misfits
pub mod Verdicts
