pub mod Expressions
pub mod Functions
pub mod Inverted
pub mod NamesGrow
pub mod Plain
pub mod Statements
pub mod Wanted
