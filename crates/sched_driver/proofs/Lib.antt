mod Own
mod Kits
