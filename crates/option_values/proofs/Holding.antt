-- Holds, one after another.
use Rattle.std.proofs.Common.{◌≡◌, ℕ, ◌+◌, ◌<◌, ◌≤◌, ◌&&◌, nat_lt, List, [], ◌∷◌, ◌++◌, Bool, true, false, Option, Some, None, option_map, option_and_then, refl, sym, ap, ◌∙◌, slice_set, arith, append_assoc}
use Rattle.std.specs.Bool.{then_some}
use Rattle.std.proofs.lemmas.Bool.{and_parts, lt-ltb, le-ltb}
use Rattle.std.proofs.lemmas.List.Sums.{fold-append}
use Rattle.option_values.specs.Lists.{are_rising, holds_by, no_holds}

-- the least channel that may come next
abbrev pub next_after : List (ℕ × ℕ) → ℕ
next_after [] = 0
next_after (x ∷ []) = x.0 + 1
next_after (x ∷ y ∷ rest) = next_after (y ∷ rest)

-- the holds are those of the channels that were named, which rise
pub record AreHeld (named : List (ℕ × ℕ)) (holds : List ℕ) (next : ℕ) : Type 0 where
  pub by : holds ≡ holds_by named
  pub rising : are_rising named ≡ true
  pub after : next ≡ next_after named

rising-more : (named : List (ℕ × ℕ)) (channel cycles : ℕ) → are_rising named ≡ true → next_after named ≤ channel
    → are_rising (named ++ (channel, cycles) ∷ []) ≡ true
rising-more [] channel cycles rising next = refl
rising-more (x ∷ []) channel cycles rising next = rw (lt-ltb x.0 channel (omega (arith, next))) refl
rising-more (x ∷ y ∷ rest) channel cycles rising next =
    let parts = and_parts (nat_lt x.0 y.0) (are_rising (y ∷ rest)) rising in
    rw parts.0 (rising-more (y ∷ rest) channel cycles parts.1 next)

after-more : (named : List (ℕ × ℕ)) (hold : ℕ × ℕ) → next_after (named ++ hold ∷ []) ≡ hold.0 + 1
after-more [] hold = refl
after-more (x ∷ []) hold = refl
after-more (x ∷ y ∷ rest) hold = after-more (y ∷ rest) hold

falls : (named : List (ℕ × ℕ)) (channel cycles : ℕ) (rest : List (ℕ × ℕ)) → channel < next_after named
    → are_rising (named ++ (channel, cycles) ∷ rest) ≡ false
falls [] channel cycles rest next = absurd (omega (arith, next))
falls (x ∷ []) channel cycles rest next = rw (le-ltb x.0 channel (omega (arith, next))) refl
falls (x ∷ y ∷ named) channel cycles rest next =
    let later = falls (y ∷ named) channel cycles rest next in
    go (nat_lt x.0 y.0) later
  where
    go : (t : Bool) → are_rising (y ∷ named ++ (channel, cycles) ∷ rest) ≡ false → (t && are_rising (y ∷ named ++ (channel, cycles) ∷ rest)) ≡ false
    go true e = e
    go false e = refl

pub none-held : AreHeld [] no_holds 0
none-held = record { by = refl; rising = refl; after = refl }

pub held-more : (named : List (ℕ × ℕ)) (holds new : List ℕ) (next after channel cycles : ℕ) → AreHeld named holds next → next ≤ channel
    → new ≡ slice_set holds channel cycles → after ≡ channel + 1 → AreHeld (named ++ (channel, cycles) ∷ []) new after
held-more named holds new next after channel cycles held above is is_after =
    record {
      by = is ∙ ap (λ (h : List ℕ). slice_set h channel cycles) held.by
          ∙ sym (fold-append (λ (h : List ℕ) (hold : ℕ × ℕ). slice_set h hold.0 hold.1) no_holds named ((channel, cycles) ∷ []));
      rising = rising-more named channel cycles held.rising (omega (arith, above, held.after));
      after = is_after ∙ sym (after-more named (channel, cycles));
    }

-- what all holds say
abbrev pub said_by : Option (List (ℕ × ℕ)) → Option (List ℕ)
said_by all = option_and_then (λ named. then_some (are_rising named) (holds_by named)) all

-- a channel that isn't above the one before
pub held-falls : (named : List (ℕ × ℕ)) (holds : List ℕ) (next channel cycles : ℕ) (all rest : Option (List (ℕ × ℕ))) → AreHeld named holds next → channel < next
    → option_map (λ more. (named ++ (channel, cycles) ∷ []) ++ more) rest ≡ all → said_by all ≡ None
held-falls named holds next channel cycles all rest held below is = ap said_by (sym is) ∙ go rest
  where
    go : (o : Option (List (ℕ × ℕ))) → said_by (option_map (λ more. (named ++ (channel, cycles) ∷ []) ++ more) o) ≡ None
    go None = refl
    go (Some more) =
        let e : are_rising ((named ++ (channel, cycles) ∷ []) ++ more) ≡ false =
        ap are_rising (append_assoc named ((channel, cycles) ∷ []) more) ∙ falls named channel cycles more (omega (arith, below, held.after)) in
        rw e refl

pub held-ends : (named : List (ℕ × ℕ)) (holds : List ℕ) (next : ℕ) (all : Option (List (ℕ × ℕ))) → AreHeld named holds next → all ≡ Some named
    → said_by all ≡ Some holds
held-ends named holds next all held is = ap said_by is ∙ rw (held.rising, held.by) refl
