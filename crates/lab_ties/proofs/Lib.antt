pub mod Lasting
pub mod Tied
pub mod Beginning
pub mod Kerneled
pub mod Apart
pub mod AtTop
