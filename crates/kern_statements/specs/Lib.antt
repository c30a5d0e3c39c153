pub mod Headers
pub mod LineSteps
pub mod Several
