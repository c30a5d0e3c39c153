mod Bare
mod Begins
mod Lengths
mod Forms
mod Ready
mod Texts
