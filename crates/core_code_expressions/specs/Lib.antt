pub mod ReadyCalls
