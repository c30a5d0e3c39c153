mod Counting
mod Named
