pub mod Checked
pub mod Programs
pub mod Statements
pub use Rattle.kern_plain.specs.Plain
pub use Rattle.kern_plain.specs.PlainFunctions
