pub mod Appended
pub mod Branches
pub mod Indents
pub mod Items
