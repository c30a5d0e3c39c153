mod Asking
mod Left
mod Placing
mod Telling
mod Whole
