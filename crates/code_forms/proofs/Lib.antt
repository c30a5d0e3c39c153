pub mod Asked
pub mod Examples
pub mod Found
pub mod Lengths
pub mod Literals
pub mod SmallKernels
pub mod StatementLengths
