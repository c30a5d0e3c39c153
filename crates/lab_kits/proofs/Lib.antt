mod Named
mod Each
mod Sessions
mod Prepared
