mod Arguments
mod Entered
mod Fronts
mod Handled
mod Operated
mod Turning
