-- Readings of one part after another.
use Rattle.std.proofs.Common.{◌≡◌, ℕ, ◌+◌, ◌<◌, ◌≤◌, List, [], ◌∷◌, ◌++◌, length, drop, get_or, Option, Some, None, option_map, refl, sym, ap, ◌∙◌, append_assoc, append-nil}
use Rattle.std.proofs.lemmas.List.{at_drop_more, at_drop_all}
use Rattle.option_values.specs.Parts.{each_of, in_front}

module _ {X : Type 0} (read : List ℕ → Option X) (parts : List (List ℕ)) where
  -- the readings so far and those of the parts behind place n are all that is said
  abbrev pub Follows : List X → ℕ → Option (List X) → Type 0
  Follows items n said = option_map (λ rest. items ++ rest) (each_of read (drop n parts)) ≡ said

  pub begins : Follows [] 0 (each_of read parts)
  begins = go (each_of read parts)
    where
      go : (o : Option (List X)) → option_map (λ rest. [] ++ rest) o ≡ o
      go None = refl
      go (Some xs) = refl

  next : (n : ℕ) (part : List ℕ) → (n < length parts) × (part ≡ get_or parts n part)
      → each_of read (drop n parts) ≡ in_front (read part) (each_of read (drop (n + 1) parts))
  next n part at =
      at_drop_more (each_of read) parts n part at.0
      ∙ ap (λ (t : List ℕ). in_front (read t) (each_of read (drop (n + 1) parts))) (sym at.1)

  -- one part more is read
  pub goes-on : (items : List X) (n : ℕ) (said : Option (List X)) (part : List ℕ) (x : X) → Follows items n said
      → (n < length parts) × (part ≡ get_or parts n part) → read part ≡ Some x → Follows (items ++ x ∷ []) (n + 1) said
  goes-on items n said part x so_far at is =
      moved (each_of read (drop (n + 1) parts))
      ∙ ap (λ (o : Option X). option_map (λ rest. items ++ rest) (in_front o (each_of read (drop (n + 1) parts)))) (sym is)
      ∙ ap (option_map (λ rest. items ++ rest)) (sym (next n part at)) ∙ so_far
    where
      moved : (o : Option (List X)) → option_map (λ rest. (items ++ x ∷ []) ++ rest) o ≡ option_map (λ rest. items ++ rest) (in_front (Some x) o)
      moved None = refl
      moved (Some rest) = ap (λ (xs : List X). Some xs) (append_assoc items (x ∷ []) rest)

  -- a part can't be read
  pub stops : (items : List X) (n : ℕ) (said : Option (List X)) (part : List ℕ) → Follows items n said
      → (n < length parts) × (part ≡ get_or parts n part) → read part ≡ None → said ≡ None
  stops items n said part so_far at is =
      sym so_far ∙ ap (option_map (λ rest. items ++ rest)) (next n part at)
      ∙ ap (λ (o : Option X). option_map (λ rest. items ++ rest) (in_front o (each_of read (drop (n + 1) parts)))) is

  -- all parts are read
  pub ends : (items : List X) (n : ℕ) (said : Option (List X)) → Follows items n said → length parts ≤ n → said ≡ Some items
  ends items n said so_far all =
      sym so_far ∙ ap (option_map (λ rest. items ++ rest)) (at_drop_all (each_of read) parts n all)
      ∙ ap (λ (xs : List X). Some xs) (append-nil items)
