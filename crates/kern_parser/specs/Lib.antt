pub mod Answers
pub mod FunctionSteps
