-- What clap and this program see in a word.
use Rattle.std.proofs.Common.{◌≡◌, ℕ, ◌==◌, ◌⊎◌, inl, inr, List, [], ◌∷◌, Bool, true, false, Option, Some, None, is_some, length, refl, sym, subst, true≢false, arith, eqb-true}
use Rattle.std.specs.Prelude.{bytes_eq}
use Rattle.std.specs.List.{after_first, before_first, list_any, position_or_len}
use Rattle.std.proofs.lemmas.List.{take_all}
use Rattle.clap.specs.Lexer.{long_of, short_of}
use Rattle.sim_words.specs.Given.{Seen, Whole, Begun, Other, after_hyphen, seen}
use Rattle.sim_words.specs.Matches.{is_shaped}

abbrev dashes : List ℕ
dashes = 45 ∷ 45 ∷ []

-- a word that begins with no hyphen
pub record IsPlainWord (word : List ℕ) : Type 0 where
  pub starts : after_hyphen word ≡ None
  pub other : bytes_eq word dashes ≡ false
  pub long : long_of word ≡ None
  pub short : short_of word ≡ None
  pub is : seen word ≡ Other

abbrev pub seen_as : List ℕ → Option (List ℕ) → Seen
seen_as name None = Begun name
seen_as name (Some value) = Whole name value

-- a word of two hyphens, a name, and maybe `=` and a value
pub record IsLongWord (word name : List ℕ) (value : Option (List ℕ)) : Type 0 where
  pub starts : is_some (after_hyphen word) ≡ true
  pub other : bytes_eq word dashes ≡ false
  pub long : long_of word ≡ Some (name, value)
  pub is : seen word ≡ seen_as name value

none-first : (p : ℕ → Bool) (text : List ℕ) → list_any p text ≡ false → position_or_len p text ≡ length text
none-first p [] e = refl
none-first p (b ∷ text) e = go (p b) refl (none-first p text)
  where
    go : (t : Bool) → p b ≡ t → (list_any p text ≡ false → position_or_len p text ≡ length text)
        → position_or_len p (b ∷ text) ≡ length (b ∷ text)
    go true here rest = absurd (true≢false (rw here at e))
    go false here rest = let all = rest (rw here at e) in grind (arith, here, all)

before-all : (p : ℕ → Bool) (text : List ℕ) → list_any p text ≡ false → before_first p text ≡ text
before-all p text e = let all = none-first p text e in take_all (position_or_len p text) text (omega (arith, all))

abbrev Shaped : List ℕ → Type 0
Shaped word = IsPlainWord word ⊎ ((name : List ℕ) × (value : Option (List ℕ)) × IsLongWord word name value)

long-shaped : (b : ℕ) (text : List ℕ) → Shaped (45 ∷ 45 ∷ b ∷ text)
long-shaped b text = inr (go (list_any (λ x. x == 61) (b ∷ text)) refl)
  where
    go : (t : Bool) → list_any (λ x. x == 61) (b ∷ text) ≡ t
        → (name : List ℕ) × (value : Option (List ℕ)) × IsLongWord (45 ∷ 45 ∷ b ∷ text) name value
    go true e = (
      before_first (λ x. x == 61) (b ∷ text),
      Some (after_first (λ x. x == 61) (b ∷ text)),
      record {
        starts = refl;
        other = refl;
        long = rw e refl;
        is = rw e refl;
      },
    )
    go false e = (
      b ∷ text,
      None,
      record {
        starts = refl;
        other = refl;
        long = rw (e, before-all (λ x. x == 61) (b ∷ text) e) refl;
        is = rw e refl;
      },
    )

plain-shaped : (b : ℕ) (text : List ℕ) → (b == 45) ≡ false → Shaped (b ∷ text)
plain-shaped b text e = inl (record { starts = rw e refl; other = rw e refl; long = rw e refl; short = rw e refl; is = rw e refl })

-- a shaped word is one of the two
pub shape-of : (word : List ℕ) → is_shaped word ≡ true → Shaped word
shape-of [] shaped = inl (record { starts = refl; other = refl; long = refl; short = refl; is = refl })
shape-of (b ∷ []) shaped = go (b == 45) refl
  where
    go : (t : Bool) → (b == 45) ≡ t → Shaped (b ∷ [])
    go true e = absurd (true≢false (sym (rw e at shaped)))
    go false e = plain-shaped b [] e
shape-of (b ∷ c ∷ text) shaped = go (b == 45) refl
  where
    second : (t : Bool) → (b == 45) ≡ true → (c == 45) ≡ t → Shaped (b ∷ c ∷ text)
    second false e f = absurd (true≢false (sym (rw (e, f) at shaped)))
    second true e f = third text (rw (e, f) at shaped) (eqb-true b 45 e) (eqb-true c 45 f)
      where
        third : (rest : List ℕ) → is_shaped (45 ∷ 45 ∷ rest) ≡ true → b ≡ 45 → c ≡ 45 → Shaped (b ∷ c ∷ rest)
        third [] bad is_b is_c = absurd (cc)
        third (d ∷ rest) good is_b is_c =
            subst (λ (x : ℕ). Shaped (x ∷ c ∷ d ∷ rest)) (sym is_b) (subst (λ (y : ℕ). Shaped (45 ∷ y ∷ d ∷ rest)) (sym is_c) (long-shaped d rest))

    go : (t : Bool) → (b == 45) ≡ t → Shaped (b ∷ c ∷ text)
    go true e = second (c == 45) e refl
    go false e = plain-shaped b (c ∷ text) e
