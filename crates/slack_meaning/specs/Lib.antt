pub mod Spans
pub mod Actions
pub mod Answers
pub mod Timeline
pub mod Expressions
pub mod Statements
pub mod Programs
