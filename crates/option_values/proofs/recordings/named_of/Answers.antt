use Rattle.std.proofs.Common.{ap, lit<}
use Rattle.std.proofs.lemmas.Str.Pattern.{split_once_first}
use Rattle.std.specs.Prelude.{option_and_then, List, ℕ}
use Rattle.option_values.specs.Lists.{named_by}
use Rattle.option_values.proofs.Cuts.{cut-none}
use Rattle.option_values.proofs.recordings.named_of.Goals as goal

pub returns-in-None : goal.returns-in-None
returns-in-None c =
    let first = split_once_first 58 c.args.text.now c.split_once.result c.split_once.ensures.cases (lit< tt) in
    let none = rw c.in-None.is at first in
    λ _. ap (option_and_then (λ (parts : List ℕ × List ℕ). named_by parts.0 parts.1)) (cut-none 58 c.args.text.now none)
