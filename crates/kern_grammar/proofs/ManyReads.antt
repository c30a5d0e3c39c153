-- Items one after another are found, or there is a first fault.
use Rattle.std.proofs.Common.{◌≡◌, ℕ, zero, suc, ◌-◌, ◌<◌, ◌≤◌, Bool, true, List, [], ◌∷◌, ◌++◌, refl, sym, ◌∙◌, ap, subst, arith, inl, inr, append_assoc, length, length-append, drop}
use Rattle.std.proofs.Math.Seq.{drop-append_seam}
use Rattle.std.specs.Prelude.{Ok, Err, not}
use Rattle.kern_lexer.specs.Symbols.{Symbol, Lexeme}
use Rattle.kern_grammar.specs.Plans.{Taken, Taker, ◌>>=◌, many_behind, many, EachOf, ends_with, EachEnds}
use Rattle.kern_grammar.proofs.Taking.{SameFirst, FoundBy, FaultOf, Takes, bind_ok, bind_err, ok_same, bool_tells}
use Rattle.kern_grammar.proofs.Many.{BeginsWith, IsItem, many-behind, and_more, many-none, many-some, many-next, many-complete}

-- an item is some tokens
shorter : (test : Symbol → Bool) (given front rest : List Lexeme) → given ≡ front ++ rest → BeginsWith test front → length rest < length given
shorter test given [] rest w b = absurd b
shorter test given (u ∷ us) rest w b = omega (arith, ap length w, length-append us rest)

-- what stands behind an item
after_item : {X : Type 0} (test : Symbol → Bool) (take : Taker X) (t : Lexeme) (ts front rest : List Lexeme) → t ∷ ts ≡ front ++ rest → BeginsWith test front → many_behind test take (length ts - length rest) ts ≡ many test take rest
after_item test take t ts [] rest w b = absurd b
after_item test take t ts (u ∷ us) rest w b =
    let tail : ts ≡ us ++ rest = cc in
    let count : length ts - length rest ≡ length us = omega (arith, ap length tail, length-append us rest) in
    many-behind test take (length ts - length rest) ts
    ∙ ap (λ k. many test take (drop k ts)) count
    ∙ ap (λ y. many test take (drop (length us) y)) tail
    ∙ ap (many test take) (drop-append_seam us rest)

-- items of which the first was taken
ends-more : {X : Type 0} (phrase stop : X → List Lexeme → Type 0) (test : Symbol → Bool) (x : X) (xs : List X) (back behind rest : List Lexeme) → behind ≡ back ++ rest → EachOf phrase xs back → stop x behind → EachEnds stop test xs rest → EachEnds stop test (x ∷ xs) rest
ends-more phrase stop test x [] back behind rest w e s ends = (subst (stop x) (w ∙ ap (λ y. y ++ rest) e) s, ends)
ends-more phrase stop test x (y ∷ ys) back behind rest w e s ends = ends

one_more : {X : Type 0} (phrase stop : X → List Lexeme → Type 0) (test : Symbol → Bool) (given behind : List Lexeme) (x : X) (xs : List X) (rest : List Lexeme) → FoundBy phrase stop given x behind → FoundBy (EachOf phrase) (EachEnds stop test) behind xs rest → (ys : List X) (end : List Lexeme) → x ∷ xs ≡ ys → rest ≡ end → FoundBy (EachOf phrase) (EachEnds stop test) given ys end
one_more phrase stop test given behind x xs rest f g ys end left right = record {
  front = f.front ++ g.front;
  whole = f.whole ∙ ap (λ y. f.front ++ y) (g.whole ∙ ap (λ y. g.front ++ y) right) ∙ sym (append_assoc f.front g.front end);
  is_phrase = subst (λ l. EachOf phrase l (f.front ++ g.front)) left (record { front = f.front; back = g.front; whole = refl; is_first = f.is_phrase; is_second = g.is_phrase });
  stopped = subst (λ l. EachEnds stop test l end) left (subst (EachEnds stop test (x ∷ xs)) right (ends-more phrase stop test x xs g.front behind rest g.whole g.is_phrase f.stopped g.stopped));
}

nothing_more : {X : Type 0} (phrase stop : X → List Lexeme → Type 0) (test : Symbol → Bool) (given : List Lexeme) (xs : List X) (rest : List Lexeme) → ends_with test given ≡ true → [] ≡ xs → given ≡ rest → FoundBy (EachOf phrase) (EachEnds stop test) given xs rest
nothing_more phrase stop test given xs rest e left right = record {
  front = [];
  whole = right;
  is_phrase = subst (λ l. EachOf phrase l []) left refl;
  stopped = subst (λ l. EachEnds stop test l rest) left (ap (ends_with test) (sym right) ∙ e);
}

many_found : {X : Type 0} (phrase stop : X → List Lexeme → Type 0) (test : Symbol → Bool) (take : Taker X) → IsItem phrase stop test → Takes phrase stop take → (n : ℕ) (given : List Lexeme) → length given ≤ n → (xs : List X) (rest : List Lexeme) → many test take given ≡ Ok (xs, rest) → FoundBy (EachOf phrase) (EachEnds stop test) given xs rest
many_found phrase stop test take item takes n [] l xs rest h =
    let both = ok_same (many test take []) ([], []) (xs, rest) refl h in
    nothing_more phrase stop test [] xs rest refl (ap (λ p. p.0) both) (ap (λ p. p.1) both)
many_found phrase stop test take item takes zero (t ∷ ts) l xs rest h = absurd (omega (arith, l))
many_found phrase stop test take item takes (suc n) (t ∷ ts) l xs rest h =
    elim (bool_tells (test t.symbol)) [
      | inl holds ↦ (
          let step = bind_ok (take (t ∷ ts)) (λ x. many_behind test take (length ts - length x.1) ts >>= λ xs. Ok (x.0 ∷ xs.0, xs.1)) (xs, rest) (sym (many-some test take t ts holds) ∙ h) in
          let first = takes.found (t ∷ ts) step.0.0 step.0.1 step.1 in
          let begins = item.begins step.0.0 first.front first.is_phrase in
          let others : and_more step.0.0 (many test take step.0.1) ≡ Ok (xs, rest) = ap (and_more step.0.0) (sym (after_item test take t ts first.front step.0.1 first.whole begins)) ∙ step.2 in
          let next = bind_ok (many test take step.0.1) (λ xs. Ok (step.0.0 ∷ xs.0, xs.1)) (xs, rest) others in
          let fewer = shorter test (t ∷ ts) first.front step.0.1 first.whole begins in
          let second = many_found phrase stop test take item takes n step.0.1 (omega (arith, fewer, l)) next.0.0 next.0.1 next.1 in
          let r : Taken (List _) = Ok (step.0.0 ∷ next.0.0, next.0.1) in
          let both = ok_same r (step.0.0 ∷ next.0.0, next.0.1) (xs, rest) refl next.2 in
          one_more phrase stop test (t ∷ ts) step.0.1 step.0.0 next.0.0 next.0.1 first second xs rest (ap (λ p. p.0) both) (ap (λ p. p.1) both))
      | inr fails ↦ (
          let both = ok_same (many test take (t ∷ ts)) ([], t ∷ ts) (xs, rest) (many-none test take t ts fails) h in
          nothing_more phrase stop test (t ∷ ts) xs rest (ap not fails) (ap (λ p. p.0) both) (ap (λ p. p.1) both))
    ]

-- items are asked for where the first token passes
asked : {X : Type 0} (test : Symbol → Bool) (take : Taker X) (t : Lexeme) (ts before left other : List Lexeme) → test t.symbol ≡ true → t ∷ ts ≡ before ++ left → SameFirst left other → take (before ++ other) ≡ Err other → many test take (before ++ other) ≡ Err other
asked test take t ts [] left [] holds w d h = absurd (subst (λ l. SameFirst l []) (sym w) d)
asked test take t ts [] left (u ∷ us) holds w d h =
    let same : t ≡ u = subst (λ l. SameFirst l (u ∷ us)) (sym w) d in
    many-some test take u us (ap (λ v. test v.symbol) (sym same) ∙ holds) ∙ ap (λ r. r >>= λ x. many_behind test take (length us - length x.1) us >>= λ xs. Ok (x.0 ∷ xs.0, xs.1)) h
asked test take t ts (u ∷ us) left other holds w d h =
    let same : t ≡ u = cc in
    many-some test take u (us ++ other) (ap (λ v. test v.symbol) (sym same) ∙ holds) ∙ ap (λ r. r >>= λ x. many_behind test take (length (us ++ other) - length x.1) (us ++ other) >>= λ xs. Ok (x.0 ∷ xs.0, xs.1)) h

-- a fault in the first item
in_first : {X : Type 0} (phrase : X → List Lexeme → Type 0) (test : Symbol → Bool) (take : Taker X) (t : Lexeme) (ts left : List Lexeme) → test t.symbol ≡ true → FaultOf phrase take (t ∷ ts) left → FaultOf (EachOf phrase) (many test take) (t ∷ ts) left
in_first phrase test take t ts left holds f = record {
  before = f.before;
  completion = f.completion ∷ [];
  more = f.more ++ [];
  whole = f.whole;
  completed = record { front = f.before ++ f.more; back = []; whole = sym (append_assoc f.before f.more []); is_first = f.completed; is_second = refl };
  same = λ other d. asked test take t ts f.before left other holds f.whole d (f.same other d);
}

-- a fault behind the first item
behind_first : {X : Type 0} (phrase stop : X → List Lexeme → Type 0) (test : Symbol → Bool) (take : Taker X) → IsItem phrase stop test → Takes phrase stop take → (given : List Lexeme) (x : X) (rest left : List Lexeme) → FoundBy phrase stop given x rest → FaultOf (EachOf phrase) (many test take) rest left → FaultOf (EachOf phrase) (many test take) given left
behind_first phrase stop test take item takes given x rest left first f = record {
  before = first.front ++ f.before;
  completion = x ∷ f.completion;
  more = f.more;
  whole = first.whole ∙ ap (λ y. first.front ++ y) f.whole ∙ sym (append_assoc first.front f.before left);
  completed = record { front = first.front; back = f.before ++ f.more; whole = append_assoc first.front f.before f.more; is_first = first.is_phrase; is_second = f.completed };
  same = λ other d.
      let taken = takes.complete x first.front (f.before ++ other) first.is_phrase (takes.alike x f.before left other d (subst (stop x) f.whole first.stopped)) in
      ap (many test take) (append_assoc first.front f.before other)
      ∙ many-next test take first.front (f.before ++ other) x (item.begins x first.front first.is_phrase) taken
      ∙ ap (and_more x) (f.same other d);
}

many_fault : {X : Type 0} (phrase stop : X → List Lexeme → Type 0) (test : Symbol → Bool) (take : Taker X) → IsItem phrase stop test → Takes phrase stop take → (n : ℕ) (given : List Lexeme) → length given ≤ n → (left : List Lexeme) → many test take given ≡ Err left → FaultOf (EachOf phrase) (many test take) given left
many_fault phrase stop test take item takes n [] l left h = absurd cc
many_fault phrase stop test take item takes zero (t ∷ ts) l left h = absurd (omega (arith, l))
many_fault phrase stop test take item takes (suc n) (t ∷ ts) l left h =
    elim (bool_tells (test t.symbol)) [
      | inl holds ↦ elim (bind_err (take (t ∷ ts)) (λ x. many_behind test take (length ts - length x.1) ts >>= λ xs. Ok (x.0 ∷ xs.0, xs.1)) left (sym (many-some test take t ts holds) ∙ h)) [
        | inl e ↦ in_first phrase test take t ts left holds (takes.fault (t ∷ ts) left e)
        | inr step ↦ (
            let first = takes.found (t ∷ ts) step.0.0 step.0.1 step.1 in
            let begins = item.begins step.0.0 first.front first.is_phrase in
            let others : and_more step.0.0 (many test take step.0.1) ≡ Err left = ap (and_more step.0.0) (sym (after_item test take t ts first.front step.0.1 first.whole begins)) ∙ step.2 in
            let fewer = shorter test (t ∷ ts) first.front step.0.1 first.whole begins in
            let r : Taken (List _) = many test take step.0.1 in
            elim (bind_err (many test take step.0.1) (λ xs. Ok (step.0.0 ∷ xs.0, xs.1)) left others) [
              | inl e ↦ behind_first phrase stop test take item takes (t ∷ ts) step.0.0 step.0.1 left first (many_fault phrase stop test take item takes n step.0.1 (omega (arith, fewer, l)) left e)
              | inr next ↦ absurd (let wrong : Ok (step.0.0 ∷ next.0.0, next.0.1) ≡ Err left = next.2 in cc)
            ])
      ]
      | inr fails ↦ absurd (let wrong : Ok ([], t ∷ ts) ≡ Err left = sym (many-none test take t ts fails) ∙ h in cc)
    ]

pub ends-alike : (test : Symbol → Bool) (before left other : List Lexeme) → SameFirst left other → ends_with test (before ++ left) ≡ true → ends_with test (before ++ other) ≡ true
ends-alike test [] [] other d h = absurd d
ends-alike test [] (s ∷ left) [] d h = absurd d
ends-alike test [] (s ∷ left) (t ∷ other) d h = ap (λ v. not (test v.symbol)) (sym d) ∙ h
ends-alike test (u ∷ before) left other d h = h

each-alike : {X : Type 0} (phrase stop : X → List Lexeme → Type 0) (test : Symbol → Bool) (take : Taker X) → Takes phrase stop take → (xs : List X) (before left other : List Lexeme) → SameFirst left other → EachEnds stop test xs (before ++ left) → EachEnds stop test xs (before ++ other)
each-alike phrase stop test take takes [] before left other d h = ends-alike test before left other d h
each-alike phrase stop test take takes (x ∷ []) before left other d h = (takes.alike x before left other d h.0, ends-alike test before left other d h.1)
each-alike phrase stop test take takes (x ∷ y ∷ ys) before left other d h = each-alike phrase stop test take takes (y ∷ ys) before left other d h

-- items one after another
pub many-takes : {X : Type 0} (phrase stop : X → List Lexeme → Type 0) (test : Symbol → Bool) (take : Taker X) → IsItem phrase stop test → Takes phrase stop take → Takes (EachOf phrase) (EachEnds stop test) (many test take)
many-takes phrase stop test take item takes = record {
  complete = many-complete phrase stop test take item takes;
  found = λ given. many_found phrase stop test take item takes (length given) given (omega arith);
  fault = λ given. many_fault phrase stop test take item takes (length given) given (omega arith);
  some = record { value = []; tokens = []; is_phrase = refl };
  alike = each-alike phrase stop test take takes;
}
