pub mod Laws
pub use Rattle.code_law.specs.DoesAs
