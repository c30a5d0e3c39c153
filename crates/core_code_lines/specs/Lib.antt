pub use Rattle.code_ranges.specs.Room
