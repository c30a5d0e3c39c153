use Rattle.std.proofs.Common.{◌≡◌, ℕ, ◌+◌, ◌-◌, ◌∙◌, List, Option, arith, drop, length, length-drop, length-take, subst, sym, take, take-add}
use Rattle.std.proofs.KnownBytes.{Appends-trans}
use Rattle.std.proofs.Math.Seq.{take-length}
use Rattle.std.specs.Io.KnownBytes.{Appends}
use Rattle.lab_io.proofs.sink.write_all.Goals as goal

-- the bytes up to a place, and then some of the rest
appends_piece : (a b c : Option (List ℕ)) (xs : List ℕ) (i n : ℕ)
    → Appends a b (take i xs) → Appends b c (take n (take (length xs - i) (drop i xs))) → Appends a c (take (i + n) xs)
appends_piece a b c xs i n first second =
    let rest : take (length xs - i) (drop i xs) ≡ drop i xs = rw (sym (length-drop i xs)) (take-length (drop i xs)) in
    let P : List ℕ → Type 0 = λ ys. Appends b c (take n ys) in
    rw take-add (Appends-trans a b c (take i xs) (take n (drop i xs)) first (subst P rest second))

pub loop-done-preserved : goal.loop-done-preserved
loop-done-preserved g c = let sent = c.in_ok-done.ensures in record {
  within = omega (arith, sent.bound, length-take {A = ℕ}, length-drop {A = ℕ});
  appended = appends_piece _ _ _ _ _ _ c.loop-done.invariant.appended sent.bytes;
  steady = sent.cause.steady ∙ c.loop-done.invariant.steady;
}
