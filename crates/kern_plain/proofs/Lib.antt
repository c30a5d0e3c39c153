pub mod Branches
pub mod PlainFunctions
pub mod PlainLines
pub mod PlainNames
