-- Kits that are the numbers of their sources: each stands for any text, and takes any call.
use Rattle.std.specs.Prelude.{ℕ, List, ℤ}
use Rattle.sched_driver.specs.declared.token.Token.{Token}

abbrev pub token_source : Token → ℕ
token_source token = token.source

abbrev pub TokenText : Token → List ℕ → Type 0
TokenText token text = Unit {0}

abbrev pub TokenCall : Token → List ℕ → List ℤ → Type 0
TokenCall token name args = Unit {0}
