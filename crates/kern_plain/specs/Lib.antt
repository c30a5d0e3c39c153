pub mod Plain
pub mod PlainFunctions
