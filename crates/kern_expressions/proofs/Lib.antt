pub mod ArgumentLists
pub mod Exits
pub mod Keeping
pub mod Lexemes
pub mod Passing
