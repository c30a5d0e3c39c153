mod Alone
mod Answering
mod Cores
mod Finishing
mod Told
mod Words
