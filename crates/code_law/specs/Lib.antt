pub mod DoesAs
pub use Rattle.code_ranges.specs.Laws
