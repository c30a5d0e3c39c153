use Rattle.std.proofs.Common.{ℕ, ◌++◌, ◌∙◌, List, Option, arith, length, length-append, refl, subst, sym}
use Rattle.std.proofs.KnownBytes.{Consumes-nil, Consumes-trans}
use Rattle.std.proofs.lemmas.Grind.{common_steps}
use Rattle.std.specs.Io.KnownBytes.{Consumes}
use Rattle.lab_io.specs.declared.source.ReadEnd.{ReadEnd}
use Rattle.lab_io.specs.Reading.{IsCountAt, GivesUp}
use Rattle.lab_io.proofs.source.read_all.Goals as goal

-- what was taken so far, and what was taken by a call that gave up
gives_up : (end : ReadEnd) (max : ℕ) (a b c : Option (List ℕ)) (xs : List ℕ)
    → Consumes a b xs → GivesUp max b c (length xs) end → (taken : List ℕ) × Consumes a c taken × IsCountAt end max (length taken)
gives_up end max a b c xs first last =
    let P : ℕ → Type 0 = λ n. IsCountAt end max n in
    (xs ++ last.0, Consumes-trans a b c xs last.0 first last.1, subst P (sym (length-append xs last.0)) last.2)

pub loop-bytes-init : goal.loop-bytes-init
loop-bytes-init g c = record {
  buffer = grind (arith, common_steps);
  within = grind (arith, common_steps);
  taken = rw c.new-bytes.ensures.items (Consumes-nil _);
  steady = refl;
}

pub loop-bytes-preserved : goal.loop-bytes-preserved
loop-bytes-preserved g c = let piece = c.in-Ok-true.ensures.ok in record {
  buffer = grind (arith, common_steps);
  within = piece.within;
  taken = rw piece.appended (Consumes-trans _ _ _ _ _ c.loop-bytes.invariant.taken piece.taken);
  steady = c.in-Ok-true.ensures.steady ∙ c.loop-bytes.invariant.steady;
}

pub returns-in-Ok-false-clause-bytes : goal.returns-in-Ok-false-clause-bytes
returns-in-Ok-false-clause-bytes g c = let piece = c.in-Ok-false.ensures.ok in (
  rw piece.appended (Consumes-trans _ _ _ _ _ c.loop-bytes.invariant.taken piece.taken),
  (piece.at_end c.in-Ok-false.field-0-test).1,
  piece.within,
)

pub returns-in-Err-clause-bytes : goal.returns-in-Err-clause-bytes
returns-in-Err-clause-bytes g c = gives_up _ _ _ _ _ _ c.loop-bytes.invariant.taken c.in-Err.ensures.err
