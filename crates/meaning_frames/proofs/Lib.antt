pub mod Arguments
pub mod First
pub mod Found
pub mod Handled
pub mod Items
pub mod Sizes
pub mod Turning
