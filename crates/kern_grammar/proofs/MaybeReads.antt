-- An item that may be missing is taken, where the item is.
use Rattle.std.proofs.Common.{◌≡◌, Bool, true, false, cond, List, [], ◌∷◌, ◌++◌, refl, sym, ◌∙◌, ap, subst, inl, inr}
use Rattle.std.specs.Prelude.{Option, Some, None, Ok, Err, not}
use Rattle.kern_lexer.specs.Symbols.{Symbol, Lexeme}
use Rattle.kern_grammar.specs.Plans.{Taken, Taker, ◌>>=◌, maybe, ends_with, MaybeOf, MaybeEnds}
use Rattle.kern_grammar.proofs.Taking.{SameFirst, FoundBy, FaultOf, Takes, bind_ok, bind_err, then_ok, ok_same, err_same, bool_tells}
use Rattle.kern_grammar.proofs.Many.{BeginsWith, not-true}
use Rattle.kern_grammar.proofs.ManyReads.{ends-alike}

-- the item is asked for, where its test passes
maybe-some : {X : Type 0} (test bar : Symbol → Bool) (take : Taker X) (t : Lexeme) (ts : List Lexeme) → test t.symbol ≡ true → maybe test bar take (t ∷ ts) ≡ (take (t ∷ ts) >>= λ x. Ok (Some x.0, x.1))
maybe-some test bar take t ts holds =
    ap (λ c. cond c (take (t ∷ ts) >>= λ x. Ok (Some x.0, x.1)) (cond (bar t.symbol) (Err (t ∷ ts)) (Ok (None, t ∷ ts)))) holds

-- and otherwise it isn't
maybe-other : {X : Type 0} (test bar : Symbol → Bool) (take : Taker X) (t : Lexeme) (ts : List Lexeme) (b : Bool) → test t.symbol ≡ false → bar t.symbol ≡ b → maybe test bar take (t ∷ ts) ≡ cond b (Err (t ∷ ts)) (Ok (None, t ∷ ts))
maybe-other test bar take t ts b fails e =
    ap (λ c. cond c (take (t ∷ ts) >>= λ x. Ok (Some x.0, x.1)) (cond (bar t.symbol) (Err (t ∷ ts)) (Ok (None, t ∷ ts)))) fails
    ∙ ap (λ c. cond c (Err (t ∷ ts)) (Ok (None, t ∷ ts))) e

maybe-begun : {X : Type 0} (test bar : Symbol → Bool) (take : Taker X) (front rest : List Lexeme) → BeginsWith test front → maybe test bar take (front ++ rest) ≡ (take (front ++ rest) >>= λ x. Ok (Some x.0, x.1))
maybe-begun test bar take [] rest b = absurd b
maybe-begun test bar take (t ∷ front) rest b = maybe-some test bar take t (front ++ rest) b

maybe-none : {X : Type 0} (test bar : Symbol → Bool) (take : Taker X) (rest : List Lexeme) → ends_with test rest ≡ true → ends_with bar rest ≡ true → maybe test bar take rest ≡ Ok (None, rest)
maybe-none test bar take [] h g = refl
maybe-none test bar take (t ∷ ts) h g = maybe-other test bar take t ts false (not-true (test t.symbol) h) (not-true (bar t.symbol) g)

maybe-complete : {X : Type 0} (phrase stop : X → List Lexeme → Type 0) (test bar : Symbol → Bool) (take : Taker X) → ((x : X) (front : List Lexeme) → phrase x front → BeginsWith test front) → Takes phrase stop take → (o : Option X) (front rest : List Lexeme) → MaybeOf phrase o front → MaybeEnds stop test bar o rest → maybe test bar take (front ++ rest) ≡ Ok (o, rest)
maybe-complete phrase stop test bar take begins takes None front rest e s =
    ap (λ y. maybe test bar take (y ++ rest)) e ∙ maybe-none test bar take rest s.0 s.1
maybe-complete phrase stop test bar take begins takes (Some x) front rest e s =
    maybe-begun test bar take front rest (begins x front e)
    ∙ then_ok (take (front ++ rest)) x rest (λ x. Ok (Some x.0, x.1)) (takes.complete x front rest e s)

one_found : {X : Type 0} (phrase stop : X → List Lexeme → Type 0) (test bar : Symbol → Bool) (given : List Lexeme) (x : X) (behind : List Lexeme) → FoundBy phrase stop given x behind → (o : Option X) (rest : List Lexeme) → Some x ≡ o → behind ≡ rest → FoundBy (MaybeOf phrase) (MaybeEnds stop test bar) given o rest
one_found phrase stop test bar given x behind f o rest left right = record {
  front = f.front;
  whole = f.whole ∙ ap (λ y. f.front ++ y) right;
  is_phrase = subst (λ y. MaybeOf phrase y f.front) left f.is_phrase;
  stopped = subst (λ y. MaybeEnds stop test bar y rest) left (subst (stop x) right f.stopped);
}

none_found : {X : Type 0} (phrase stop : X → List Lexeme → Type 0) (test bar : Symbol → Bool) (given : List Lexeme) → ends_with test given ≡ true → ends_with bar given ≡ true → (o : Option X) (rest : List Lexeme) → None ≡ o → given ≡ rest → FoundBy (MaybeOf phrase) (MaybeEnds stop test bar) given o rest
none_found phrase stop test bar given h g o rest left right = record {
  front = [];
  whole = right;
  is_phrase = subst (λ y. MaybeOf phrase y []) left refl;
  stopped = subst (λ y. MaybeEnds stop test bar y rest) left (ap (ends_with test) (sym right) ∙ h, ap (ends_with bar) (sym right) ∙ g);
}

maybe-found : {X : Type 0} (phrase stop : X → List Lexeme → Type 0) (test bar : Symbol → Bool) (take : Taker X) → Takes phrase stop take → (given : List Lexeme) (o : Option X) (rest : List Lexeme) → maybe test bar take given ≡ Ok (o, rest) → FoundBy (MaybeOf phrase) (MaybeEnds stop test bar) given o rest
maybe-found phrase stop test bar take takes [] o rest h =
    let both = ok_same (maybe test bar take []) (None, []) (o, rest) refl h in
    none_found phrase stop test bar [] refl refl o rest (ap (λ p. p.0) both) (ap (λ p. p.1) both)
maybe-found phrase stop test bar take takes (t ∷ ts) o rest h =
    elim (bool_tells (test t.symbol)) [
      | inl holds ↦ (
          let step = bind_ok (take (t ∷ ts)) (λ x. Ok (Some x.0, x.1)) (o, rest) (sym (maybe-some test bar take t ts holds) ∙ h) in
          let r : Taken (Option _) = Ok (Some step.0.0, step.0.1) in
          let both = ok_same r (Some step.0.0, step.0.1) (o, rest) refl step.2 in
          one_found phrase stop test bar (t ∷ ts) step.0.0 step.0.1 (takes.found (t ∷ ts) step.0.0 step.0.1 step.1) o rest (ap (λ p. p.0) both) (ap (λ p. p.1) both))
      | inr fails ↦ elim (bool_tells (bar t.symbol)) [
        | inl barred ↦ absurd (let wrong : Err (t ∷ ts) ≡ Ok (o, rest) = sym (maybe-other test bar take t ts true fails barred) ∙ h in cc)
        | inr free ↦ (
            let both = ok_same (maybe test bar take (t ∷ ts)) (None, t ∷ ts) (o, rest) (maybe-other test bar take t ts false fails free) h in
            none_found phrase stop test bar (t ∷ ts) (ap not fails) (ap not free) o rest (ap (λ p. p.0) both) (ap (λ p. p.1) both))
      ]
    ]

-- the item is asked for, where the first token passes
asked : {X : Type 0} (test bar : Symbol → Bool) (take : Taker X) (t : Lexeme) (ts before left other : List Lexeme) → test t.symbol ≡ true → t ∷ ts ≡ before ++ left → SameFirst left other → take (before ++ other) ≡ Err other → maybe test bar take (before ++ other) ≡ Err other
asked test bar take t ts [] left [] holds w d h = absurd (subst (λ l. SameFirst l []) (sym w) d)
asked test bar take t ts [] left (u ∷ us) holds w d h =
    let same : t ≡ u = subst (λ l. SameFirst l (u ∷ us)) (sym w) d in
    maybe-some test bar take u us (ap (λ v. test v.symbol) (sym same) ∙ holds) ∙ ap (λ r. r >>= λ x. Ok (Some x.0, x.1)) h
asked test bar take t ts (u ∷ us) left other holds w d h =
    let same : t ≡ u = cc in
    maybe-some test bar take u (us ++ other) (ap (λ v. test v.symbol) (sym same) ∙ holds) ∙ ap (λ r. r >>= λ x. Ok (Some x.0, x.1)) h

barred_again : {X : Type 0} (test bar : Symbol → Bool) (take : Taker X) (t : Lexeme) (ts other : List Lexeme) → test t.symbol ≡ false → bar t.symbol ≡ true → SameFirst (t ∷ ts) other → maybe test bar take other ≡ Err other
barred_again test bar take t ts [] fails b d = absurd d
barred_again test bar take t ts (u ∷ us) fails b d =
    maybe-other test bar take u us true (ap (λ v. test v.symbol) (sym d) ∙ fails) (ap (λ v. bar v.symbol) (sym d) ∙ b)

maybe-fault : {X : Type 0} (phrase stop : X → List Lexeme → Type 0) (test bar : Symbol → Bool) (take : Taker X) → Takes phrase stop take → (given left : List Lexeme) → maybe test bar take given ≡ Err left → FaultOf (MaybeOf phrase) (maybe test bar take) given left
maybe-fault phrase stop test bar take takes [] left h = absurd cc
maybe-fault phrase stop test bar take takes (t ∷ ts) left h =
    elim (bool_tells (test t.symbol)) [
      | inl holds ↦ elim (bind_err (take (t ∷ ts)) (λ x. Ok (Some x.0, x.1)) left (sym (maybe-some test bar take t ts holds) ∙ h)) [
        | inl e ↦ (
            let f = takes.fault (t ∷ ts) left e in
            record {
              before = f.before;
              completion = Some f.completion;
              more = f.more;
              whole = f.whole;
              completed = f.completed;
              same = λ other d. asked test bar take t ts f.before left other holds f.whole d (f.same other d);
            })
        | inr step ↦ absurd (let wrong : Ok (Some step.0.0, step.0.1) ≡ Err left = step.2 in cc)
      ]
      | inr fails ↦ elim (bool_tells (bar t.symbol)) [
        | inl barred ↦ (
            let at = err_same (maybe test bar take (t ∷ ts)) (t ∷ ts) left (maybe-other test bar take t ts true fails barred) h in
            record {
              before = [];
              completion = None;
              more = [];
              whole = at;
              completed = refl;
              same = λ other d. barred_again test bar take t ts other fails barred (subst (λ l. SameFirst l other) (sym at) d);
            })
        | inr free ↦ absurd (let wrong : Ok (None, t ∷ ts) ≡ Err left = sym (maybe-other test bar take t ts false fails free) ∙ h in cc)
      ]
    ]

maybe-alike : {X : Type 0} (phrase stop : X → List Lexeme → Type 0) (test bar : Symbol → Bool) (take : Taker X) → Takes phrase stop take → (o : Option X) (before left other : List Lexeme) → SameFirst left other → MaybeEnds stop test bar o (before ++ left) → MaybeEnds stop test bar o (before ++ other)
maybe-alike phrase stop test bar take takes None before left other d h = (ends-alike test before left other d h.0, ends-alike bar before left other d h.1)
maybe-alike phrase stop test bar take takes (Some x) before left other d h = takes.alike x before left other d h

-- an item or none
pub maybe-takes : {X : Type 0} (phrase stop : X → List Lexeme → Type 0) (test bar : Symbol → Bool) (take : Taker X) → ((x : X) (front : List Lexeme) → phrase x front → BeginsWith test front) → Takes phrase stop take → Takes (MaybeOf phrase) (MaybeEnds stop test bar) (maybe test bar take)
maybe-takes phrase stop test bar take begins takes = record {
  complete = maybe-complete phrase stop test bar take begins takes;
  found = maybe-found phrase stop test bar take takes;
  fault = maybe-fault phrase stop test bar take takes;
  some = record { value = None; tokens = []; is_phrase = refl };
  alike = maybe-alike phrase stop test bar take takes;
}
