pub mod Begun
mod Datasets
mod Results
