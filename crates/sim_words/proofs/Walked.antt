-- clap's walk over the words, beside the options that they give.
use Rattle.std.proofs.Common.{◌≡◌, ◌||◌, ◌&&◌, ◌⊎◌, inl, inr, List, [], ◌∷◌, ◌++◌, map, Bool, true, false, not, cond, Option, Some, None, is_some, option_map, refl, sym, ap, subst, ◌∙◌, true≢false, append_assoc, append-nil}
use Rattle.std.specs.Prelude.{bytes_eq, fold, option_and_then}
use Rattle.std.specs.Bool.{then_some}
use Rattle.std.specs.List.{list_all}
use Rattle.clap.specs.Walk.{Held, Row, Rule, Text, Waiting, Walk, at_row, has_row, idle, more_values, option, settled, used, walked, without}
use Rattle.std.proofs.lemmas.Bool.{and_parts}
use Rattle.clap.specs.Lexer.{long_of}
use Rattle.clap.specs.declared.parser.matches.ValueSource.TheVariants.{CommandLine}
use Rattle.clap.specs.Faults.{settle_fault, turn_fault, use_fault, walk_fault}
use Rattle.clap.specs.Kinds.{Kinds, or_else}
use Rattle.sim_words.specs.Given.{Given, are_options, given_from, is_among, after_hyphen}
use Rattle.sim_words.specs.Matches.{is_shaped, option_row}
use Rattle.sim_words.proofs.Lists.{Fails, fails-first, text-same, or-false, or-swap, or-three}
use Rattle.sim_words.proofs.Plain.{ready, ready_shape, long-there, long-none, id-there, no-place}
use Rattle.sim_words.proofs.Shapes.{IsPlainWord, IsLongWord, shape-of}

-- ---- rows

abbrev pub row_at : Text → Text → Row
row_at name value = option_row (record { name = name; value = value })

absent : (id : Text) (change : Row → List Row) (missing rows : List Row) → has_row id rows ≡ false → at_row id change missing rows ≡ rows ++ missing
absent id change missing [] e = refl
absent id change missing (row ∷ rows) e = go (bytes_eq row.id id) refl (absent id change missing rows)
  where
    go : (t : Bool) → bytes_eq row.id id ≡ t → (has_row id rows ≡ false → at_row id change missing rows ≡ rows ++ missing)
        → at_row id change missing (row ∷ rows) ≡ (row ∷ rows) ++ missing
    go true here rest = absurd (true≢false (rw here at e))
    go false here rest = rw here (ap (λ (rs : List Row). row ∷ rs) (rest (rw here at e)))

-- an option that wasn't used gets its row at the end
pub used-new : (name value : Text) (rows : List Row) → has_row name rows ≡ false → used (ready name) (value ∷ []) rows ≡ rows ++ row_at name value ∷ []
used-new name value rows e =
    let same : without name rows ≡ rows = absent name (λ _. []) [] rows e ∙ append-nil rows in
    rw same (absent name (more_values CommandLine (value ∷ [])) (row_at name value ∷ []) rows e)

pub use-passes : (name value : Text) (rows : List Row) → has_row name rows ≡ false → use_fault false (ready name) (value ∷ []) rows ≡ []
use-passes name value rows e = rw e refl

pub use-fails : (name value : Text) (rows : List Row) → has_row name rows ≡ true → Fails (use_fault false (ready name) (value ∷ []) rows)
use-fails name value rows e = rw e tt

-- the rows have the names of the earlier options
abbrev pub Names : List Row → List Text → Type 0
Names rows earlier = (name : Text) → has_row name rows ≡ is_among name earlier

row-more : (name value : Text) (rows : List Row) (other : Text) → has_row other (rows ++ row_at name value ∷ []) ≡ (has_row other rows || bytes_eq name other)
row-more name value [] other = or-false (bytes_eq name other)
row-more name value (r ∷ rows) other =
    ap (λ (b : Bool). bytes_eq r.id other || b) (row-more name value rows other) ∙ or-three (bytes_eq r.id other) (has_row other rows) (bytes_eq name other)

names-more : (rows : List Row) (earlier : List Text) (name value : Text) → Names rows earlier → Names (rows ++ row_at name value ∷ []) (name ∷ earlier)
names-more rows earlier name value same = λ other. row-more name value rows other ∙ ap (λ (b : Bool). b || bytes_eq name other) (same other) ∙ or-swap (is_among other earlier) (bytes_eq name other)

-- ---- states of the walk

-- no option is open; one has its value, and isn't among the rows yet; one waits for its value
pub data Open : Type 0 where
  Free : Open
  Last : (name value : Text) → Open
  Waits : (name : Text) → Open

abbrev pub pending_at : Open → Option (Text × List Text)
pending_at Free = None
pending_at (Last name value) = Some (name, value ∷ [])
pending_at (Waits name) = Some (name, [])

abbrev pub waiting_at : Open → Waiting
waiting_at Free = idle
waiting_at (Last name value) = idle
waiting_at (Waits name) = option name

abbrev pub held_at : Open → List Row → Held
held_at open_option rows = record { rows = rows; pending = pending_at open_option; skip = 0 }

abbrev pub walk_at : Open → List Row → Walk
walk_at open_option rows =
    record { held = held_at open_option rows; waiting = waiting_at open_option; position = 1; is_trailing = false; stopped = None }

-- the options to come, that which is open among them
abbrev pub coming : Open → List Text → Option (List Given)
coming Free words = given_from None words
coming (Last name value) words = option_map (λ given. record { name = name; value = value } ∷ given) (given_from None words)
coming (Waits name) words = given_from (Some name) words

module _ (names : List Text) where
  abbrev rules : List Rule
  rules = map ready names

  abbrev IsKnown : Open → Type 0
  IsKnown Free = Unit {0}
  IsKnown (Last name value) = is_among name names ≡ true
  IsKnown (Waits name) = is_among name names ≡ true

  -- the faults of the walk and at its end, and the rows at its end
  abbrev pub fault_from : Walk → List Text → Kinds
  fault_from w words =
      or_else (walk_fault (ready_shape names) [] w words) (settle_fault rules false (fold (walked rules []) w words).held)

  abbrev pub rows_from : Walk → List Text → List Row
  rows_from w words = (settled rules (fold (walked rules []) w words).held).rows

  -- the options that are said, if each has a name of the command and none the name of an earlier one
  abbrev pub checked : List Text → Option (List Given) → Option (List Given)
  checked earlier said = option_and_then (λ given. then_some (are_options names earlier given) given) said

  -- where there are such options, clap has no fault and their rows; else it has a fault
  abbrev pub Agrees : Option (List Given) → List Row → Kinds → List Row → Type 0
  Agrees None rows fault ends = Fails fault
  Agrees (Some given) rows fault ends = (fault ≡ []) × (ends ≡ rows ++ map option_row given)

  refused : (name value : Text) (earlier : List Text) (said : Option (List Given)) (rows : List Row) (fault : Kinds) (ends : List Row)
      → (is_among name names && not (is_among name earlier)) ≡ false → Fails fault
      → Agrees (checked earlier (option_map (λ given. record { name = name; value = value } ∷ given) said)) rows fault ends
  refused name value earlier None rows fault ends e fails = fails
  refused name value earlier (Some given) rows fault ends e fails = rw e fails

  one-more : (name value : Text) (earlier : List Text) (said : Option (List Given)) (rows more : List Row) (fault : Kinds) (ends : List Row)
      → is_among name names ≡ true → is_among name earlier ≡ false → more ≡ rows ++ row_at name value ∷ []
      → Agrees (checked (name ∷ earlier) said) more fault ends
      → Agrees (checked earlier (option_map (λ given. record { name = name; value = value } ∷ given) said)) rows fault ends
  one-more name value earlier None rows more fault ends known fresh is agrees = agrees
  one-more name value earlier (Some given) rows more fault ends known fresh is agrees = rw (known, fresh) (go (are_options names (name ∷ earlier) given) agrees)
    where
      go : (t : Bool) → Agrees (then_some t given) more fault ends
          → Agrees (then_some t (record { name = name; value = value } ∷ given)) rows fault ends
      go false agrees = agrees
      go true agrees =
          (agrees.0, agrees.1 ∙ ap (λ (rs : List Row). rs ++ map option_row given) is ∙ append_assoc rows (row_at name value ∷ []) (map option_row given))

  -- ---- one word

  -- the fault of a word is a fault of the walk
  fails-here : (w : Walk) (word : Text) (words : List Text) → Fails (turn_fault (ready_shape names) [] w word) → Fails (fault_from w (word ∷ words))
  unfolding walk_fault
  fails-here w word words fails = fails-first _ _ (fails-first _ _ fails)

  -- without one the walk goes on
  goes-on : (w after : Walk) (word : Text) (words : List Text) (said : Option (List Given)) (rows : List Row)
      → turn_fault (ready_shape names) [] w word ≡ [] → walked rules [] w word ≡ after
      → Agrees said rows (fault_from after words) (rows_from after words)
      → Agrees said rows (fault_from w (word ∷ words)) (rows_from w (word ∷ words))
  unfolding walk_fault
  goes-on w after word words said rows none is agrees =
      rw none
      (subst
      (λ (v : Walk). Agrees said rows
      (or_else (walk_fault (ready_shape names) [] v words) (settle_fault rules false (fold (walked rules []) v words).held))
      (settled rules (fold (walked rules []) v words).held).rows)
      (sym is) agrees)

  -- what the words behind a word come to, from any state
  abbrev Rest : List Text → Type 0
  Rest words = (open_option : Open) (rows : List Row) (earlier : List Text) → IsKnown open_option → Names rows earlier
      → Agrees (checked earlier (coming open_option words)) rows (fault_from (walk_at open_option rows) words) (rows_from (walk_at open_option rows) words)

  -- ---- a word in a free state
  module _ (word : Text) (words : List Text) (rest : Rest words) (rows : List Row) (earlier : List Text) (same : Names rows earlier) where
    free-plain : IsPlainWord word
        → Agrees (checked earlier (coming Free (word ∷ words))) rows (fault_from (walk_at Free rows) (word ∷ words)) (rows_from (walk_at Free rows) (word ∷ words))
    free-plain plain = rw plain.is (fails-here (walk_at Free rows) word words (rw (plain.other, plain.long, plain.short, no-place 1 names) tt))

    -- `--name=value`
    free-whole : (name value : Text) → IsLongWord word name (Some value)
        → Agrees (checked earlier (coming Free (word ∷ words))) rows (fault_from (walk_at Free rows) (word ∷ words)) (rows_from (walk_at Free rows) (word ∷ words))
    unfolding walked
    free-whole name value long = rw long.is (known (is_among name names) refl)
      where
        Goal : Type 0
        Goal = Agrees (checked earlier (option_map (λ given. record { name = name; value = value } ∷ given) (given_from None words))) rows
            (fault_from (walk_at Free rows) (word ∷ words)) (rows_from (walk_at Free rows) (word ∷ words))

        fresh : (t : Bool) → is_among name names ≡ true → has_row name rows ≡ t → Goal
        fresh true there e =
            refused name value earlier (given_from None words) rows _ _ (rw (sym (same name) ∙ e, there) refl)
            (fails-here (walk_at Free rows) word words (rw (long.other, long.long, long-there name names there) (fails-first _ _ (use-fails name value rows e))))
        fresh false there e =
            one-more name value earlier (given_from None words) rows (rows ++ row_at name value ∷ []) _ _ there (sym (same name) ∙ e) refl
            (goes-on (walk_at Free rows) (walk_at Free (rows ++ row_at name value ∷ [])) word words _ _
            (rw (long.other, long.long, long-there name names there, use-passes name value rows e) refl)
            (rw (long.other, long.long, long-there name names there, used-new name value rows e) refl)
            (rest Free (rows ++ row_at name value ∷ []) (name ∷ earlier) tt (names-more rows earlier name value same)))

        known : (t : Bool) → is_among name names ≡ t → Goal
        known false e =
            refused name value earlier (given_from None words) rows _ _ (rw e refl)
            (fails-here (walk_at Free rows) word words (rw (long.other, long.long, long-none name names e) tt))
        known true e = fresh (has_row name rows) e refl

    -- `--name`
    unknown : (name : Text) (more : List Text) (fault : Kinds) (ends : List Row) → is_among name names ≡ false → Fails fault
        → Agrees (checked earlier (given_from (Some name) more)) rows fault ends
    unknown name [] fault ends e fails = fails
    unknown name (next ∷ more) fault ends e fails = go (is_some (after_hyphen next))
      where
        go : (t : Bool)
            → Agrees (checked earlier (cond t None (option_map (λ given. record { name = name; value = next } ∷ given) (given_from None more)))) rows fault ends
        go true = fails
        go false = refused name next earlier (given_from None more) rows fault ends (rw e refl) fails

    free-begun : (name : Text) → IsLongWord word name None
        → Agrees (checked earlier (coming Free (word ∷ words))) rows (fault_from (walk_at Free rows) (word ∷ words)) (rows_from (walk_at Free rows) (word ∷ words))
    unfolding walked
    free-begun name long = rw long.is (known (is_among name names) refl)
      where
        known : (t : Bool) → is_among name names ≡ t
            → Agrees (checked earlier (given_from (Some name) words)) rows (fault_from (walk_at Free rows) (word ∷ words)) (rows_from (walk_at Free rows) (word ∷ words))
        known false e = unknown name words _ _ e (fails-here (walk_at Free rows) word words (rw (long.other, long.long, long-none name names e) tt))
        known true e =
            goes-on (walk_at Free rows) (walk_at (Waits name) rows) word words _ _
            (rw (long.other, long.long, long-there name names e) refl)
            (rw (long.other, long.long, long-there name names e) refl)
            (rest (Waits name) rows earlier e same)

    free : is_shaped word ≡ true
        → Agrees (checked earlier (coming Free (word ∷ words))) rows (fault_from (walk_at Free rows) (word ∷ words)) (rows_from (walk_at Free rows) (word ∷ words))
    free shaped = go (shape-of word shaped)
      where
        by-value : (name : Text) (value : Option Text) → IsLongWord word name value
            → Agrees (checked earlier (coming Free (word ∷ words))) rows (fault_from (walk_at Free rows) (word ∷ words)) (rows_from (walk_at Free rows) (word ∷ words))
        by-value name None long = free-begun name long
        by-value name (Some value) long = free-whole name value long

        go : IsPlainWord word ⊎ ((name : Text) × (value : Option Text) × IsLongWord word name value)
            → Agrees (checked earlier (coming Free (word ∷ words))) rows (fault_from (walk_at Free rows) (word ∷ words)) (rows_from (walk_at Free rows) (word ∷ words))
        go (inl plain) = free-plain plain
        go (inr (name, value, long)) = by-value name value long

  -- ---- an option that has its value

  -- settling it is using it
  settles : (name value : Text) (rows : List Row) → is_among name names ≡ true
      → settle_fault rules false (held_at (Last name value) rows) ≡ use_fault false (ready name) (value ∷ []) rows
  settles name value rows known = rw (id-there name names known) refl

  settled-new : (name value : Text) (rows : List Row) → is_among name names ≡ true → has_row name rows ≡ false
      → settled rules (held_at (Last name value) rows) ≡ held_at Free (rows ++ row_at name value ∷ [])
  settled-new name value rows known fresh = rw (id-there name names known, used-new name value rows fresh) refl

  module _ (name value : Text) (rows : List Row) (known : is_among name names ≡ true) where
    -- behind it the walk goes on as from a free state that has its row
    same-fault : (word next : Text) (given : Option Text) → IsLongWord word next given → has_row name rows ≡ false
        → turn_fault (ready_shape names) [] (walk_at (Last name value) rows) word ≡ turn_fault (ready_shape names) [] (walk_at Free (rows ++ row_at name value ∷ [])) word
    same-fault word next given long fresh = go (is_among next names) given refl long.long
      where
        go : (t : Bool) (g : Option Text) → is_among next names ≡ t → long_of word ≡ Some (next, g)
            → turn_fault (ready_shape names) [] (walk_at (Last name value) rows) word ≡ turn_fault (ready_shape names) [] (walk_at Free (rows ++ row_at name value ∷ [])) word
        go false g e is = rw (long.other, is, long-none next names e) refl
        go true None e is = rw (long.other, is, long-there next names e, id-there name names known, fresh) refl
        go true (Some v) e is = rw (long.other, is, long-there next names e, id-there name names known, fresh, used-new name value rows fresh) refl

    same-walk : (word next : Text) (given : Option Text) → IsLongWord word next given → has_row name rows ≡ false → is_among next names ≡ true
        → walked rules [] (walk_at (Last name value) rows) word ≡ walked rules [] (walk_at Free (rows ++ row_at name value ∷ [])) word
    unfolding walked
    same-walk word next given long fresh e = go given long.long
      where
        go : (g : Option Text) → long_of word ≡ Some (next, g)
            → walked rules [] (walk_at (Last name value) rows) word ≡ walked rules [] (walk_at Free (rows ++ row_at name value ∷ [])) word
        go None is = rw (long.other, is, long-there next names e, id-there name names known, used-new name value rows fresh) refl
        go (Some v) is = rw (long.other, is, long-there next names e, id-there name names known, used-new name value rows fresh) refl

    last-plain : (word : Text) → IsPlainWord word → Fails (turn_fault (ready_shape names) [] (walk_at (Last name value) rows) word)
    last-plain word plain = rw (plain.other, plain.long, plain.short, no-place 1 names) tt

    last-unknown : (word next : Text) (given : Option Text) → IsLongWord word next given → is_among next names ≡ false
        → Fails (turn_fault (ready_shape names) [] (walk_at (Last name value) rows) word)
    last-unknown word next given long e = rw (long.other, long.long, long-none next names e) tt

    last-again : (word next : Text) (given : Option Text) → IsLongWord word next given → is_among next names ≡ true → has_row name rows ≡ true
        → Fails (turn_fault (ready_shape names) [] (walk_at (Last name value) rows) word)
    last-again word next given long e again = go given long.long
      where
        go : (g : Option Text) → long_of word ≡ Some (next, g) → Fails (turn_fault (ready_shape names) [] (walk_at (Last name value) rows) word)
        go None is = rw (long.other, is, long-there next names e, id-there name names known, again) tt
        go (Some v) is = rw (long.other, is, long-there next names e, id-there name names known, again) tt

  -- ---- all words

  same-from : (w v : Walk) (word : Text) (words : List Text) (said : Option (List Given)) (rows : List Row)
      → turn_fault (ready_shape names) [] w word ≡ turn_fault (ready_shape names) [] v word → walked rules [] w word ≡ walked rules [] v word
      → Agrees said rows (fault_from v (word ∷ words)) (rows_from v (word ∷ words))
      → Agrees said rows (fault_from w (word ∷ words)) (rows_from w (word ∷ words))
  unfolding walk_fault
  same-from w v word words said rows turn walk agrees =
      rw turn
      (subst
      (λ (u : Walk). Agrees said rows
      (or_else (or_else (turn_fault (ready_shape names) [] v word) (walk_fault (ready_shape names) [] u words))
      (settle_fault rules false (fold (walked rules []) u words).held))
      (settled rules (fold (walked rules []) u words).held).rows)
      (sym walk) agrees)

  at-end : Rest []
  unfolding walk_fault
  at-end Free rows earlier known same = (refl, sym (append-nil rows))
  at-end (Waits name) rows earlier known same = rw (id-there name names known) tt
  at-end (Last name value) rows earlier known same = go (has_row name rows) refl
    where
      go : (t : Bool) → has_row name rows ≡ t
          → Agrees (checked earlier (coming (Last name value) [])) rows (fault_from (walk_at (Last name value) rows) []) (rows_from (walk_at (Last name value) rows) [])
      go true e =
          refused name value earlier (Some []) rows _ _ (rw (sym (same name) ∙ e, known) refl)
          (rw (settles name value rows known) (use-fails name value rows e))
      go false e =
          one-more name value earlier (Some []) rows (rows ++ row_at name value ∷ []) _ _ known (sym (same name) ∙ e) refl (
            settles name value rows known ∙ use-passes name value rows e,
            ap (λ (h : Held). h.rows) (settled-new name value rows known e) ∙ sym (append-nil (rows ++ row_at name value ∷ [])),
          )

  last : (word : Text) (words : List Text) → is_shaped word ≡ true → Rest words → (name value : Text) (rows : List Row) (earlier : List Text)
      → is_among name names ≡ true → Names rows earlier
      → Agrees (checked earlier (coming (Last name value) (word ∷ words))) rows
      (fault_from (walk_at (Last name value) rows) (word ∷ words)) (rows_from (walk_at (Last name value) rows) (word ∷ words))
  last word words shaped rest name value rows earlier known same = go (shape-of word shaped) (has_row name rows) refl
    where
      Goal : Type 0
      Goal = Agrees (checked earlier (option_map (λ given. record { name = name; value = value } ∷ given) (given_from None (word ∷ words)))) rows
          (fault_from (walk_at (Last name value) rows) (word ∷ words)) (rows_from (walk_at (Last name value) rows) (word ∷ words))

      again : has_row name rows ≡ true → Fails (turn_fault (ready_shape names) [] (walk_at (Last name value) rows) word) → Goal
      again e fails =
          refused name value earlier (given_from None (word ∷ words)) rows _ _ (rw (sym (same name) ∙ e, known) refl)
          (fails-here (walk_at (Last name value) rows) word words fails)

      new : has_row name rows ≡ false
          → Agrees (checked (name ∷ earlier) (given_from None (word ∷ words))) (rows ++ row_at name value ∷ [])
          (fault_from (walk_at (Last name value) rows) (word ∷ words)) (rows_from (walk_at (Last name value) rows) (word ∷ words))
          → Goal
      new e agrees =
          one-more name value earlier (given_from None (word ∷ words)) rows (rows ++ row_at name value ∷ []) _ _ known (sym (same name) ∙ e) refl agrees

      long : (next : Text) (given : Option Text) → IsLongWord word next given → (t u : Bool) → has_row name rows ≡ t → is_among next names ≡ u → Goal
      long next given is true false e f = again e (last-unknown name value rows known word next given is f)
      long next given is true true e f = again e (last-again name value rows known word next given is f e)
      long next given is false false e f = new e (unsaid given is)
        where
          unsaid : (g : Option Text) → IsLongWord word next g
              → Agrees (checked (name ∷ earlier) (given_from None (word ∷ words))) (rows ++ row_at name value ∷ [])
              (fault_from (walk_at (Last name value) rows) (word ∷ words)) (rows_from (walk_at (Last name value) rows) (word ∷ words))
          unsaid None is =
              rw is.is
              (unknown word words rest (rows ++ row_at name value ∷ []) (name ∷ earlier) (names-more rows earlier name value same) next words _ _ f
              (fails-here (walk_at (Last name value) rows) word words (last-unknown name value rows known word next None is f)))
          unsaid (Some v) is =
              rw is.is
              (refused next v (name ∷ earlier) (given_from None words) (rows ++ row_at name value ∷ []) _ _ (rw f refl)
              (fails-here (walk_at (Last name value) rows) word words (last-unknown name value rows known word next (Some v) is f)))
      long next given is false true e f =
          new e
          (same-from (walk_at (Last name value) rows) (walk_at Free (rows ++ row_at name value ∷ [])) word words _ _
          (same-fault name value rows known word next given is e) (same-walk name value rows known word next given is e f)
          (free word words rest (rows ++ row_at name value ∷ []) (name ∷ earlier) (names-more rows earlier name value same) shaped))

      go : IsPlainWord word ⊎ ((next : Text) × (given : Option Text) × IsLongWord word next given) → (t : Bool) → has_row name rows ≡ t → Goal
      go (inl plain) true e = again e (last-plain name value rows known word plain)
      go (inl plain) false e =
          new e (rw plain.is (fails-here (walk_at (Last name value) rows) word words (last-plain name value rows known word plain)))
      go (inr (next, given, is)) t e = long next given is t (is_among next names) e refl

  waits : (word : Text) (words : List Text) → is_shaped word ≡ true → Rest words → (name : Text) (rows : List Row) (earlier : List Text)
      → is_among name names ≡ true → Names rows earlier
      → Agrees (checked earlier (coming (Waits name) (word ∷ words))) rows
      (fault_from (walk_at (Waits name) rows) (word ∷ words)) (rows_from (walk_at (Waits name) rows) (word ∷ words))
  unfolding walked
  waits word words shaped rest name rows earlier known same = go (shape-of word shaped)
    where
      Goal : Type 0
      Goal = Agrees (checked earlier (coming (Waits name) (word ∷ words))) rows
          (fault_from (walk_at (Waits name) rows) (word ∷ words)) (rows_from (walk_at (Waits name) rows) (word ∷ words))

      refuses : (next : Text) (given : Option Text) → IsLongWord word next given → (u : Bool) → is_among next names ≡ u
          → Fails (turn_fault (ready_shape names) [] (walk_at (Waits name) rows) word)
      refuses next given is false f = rw (is.other, is.long, long-none next names f) tt
      refuses next None is true f = rw (is.other, is.long, long-there next names f, id-there name names known) tt
      refuses next (Some v) is true f = rw (is.other, is.long, long-there next names f, id-there name names known) tt

      go : IsPlainWord word ⊎ ((next : Text) × (given : Option Text) × IsLongWord word next given) → Goal
      go (inl plain) =
          rw plain.starts
          (goes-on (walk_at (Waits name) rows) (walk_at (Last name word) rows) word words _ _
          (rw (plain.other, plain.long, plain.short) refl)
          (rw (plain.other, plain.long, plain.short, id-there name names known, text-same name) refl)
          (rest (Last name word) rows earlier known same))
      go (inr (next, given, is)) = rw is.starts (fails-here (walk_at (Waits name) rows) word words (refuses next given is (is_among next names) refl))

  pub goes : (words : List Text) → list_all is_shaped words ≡ true → Rest words
  goes [] shaped open_option rows earlier known same = at-end open_option rows earlier known same
  goes (word ∷ words) shaped open_option rows earlier known same =
      let parts = and_parts (is_shaped word) (list_all is_shaped words) shaped in
      go open_option known (goes words parts.1) parts.0
    where
      go : (o : Open) → IsKnown o → Rest words → is_shaped word ≡ true
          → Agrees (checked earlier (coming o (word ∷ words))) rows (fault_from (walk_at o rows) (word ∷ words)) (rows_from (walk_at o rows) (word ∷ words))
      go Free known rest here = free word words rest rows earlier same here
      go (Last name value) known rest here = last word words here rest name value rows earlier known same
      go (Waits name) known rest here = waits word words here rest name rows earlier known same
