-- A command with plain options, as clap builds it.
use Rattle.std.proofs.Common.{◌≡◌, ℕ, ◌&&◌, List, [], ◌∷◌, map, Bool, true, false, not, Some, None, refl, ap, ◌∙◌, codes, true≢false}
use Rattle.std.specs.Prelude.{bytes_eq, fold, count_by, is_some}
use Rattle.std.specs.List.{list_all, list_any}
use Rattle.clap.specs.Walk.{Row, Rule, Text, arg_by_id, arg_by_index, arg_by_long, has_row, is_early_multiple, with_default}
use Rattle.clap.specs.Simple.{App, Shape, built, filled, filled_from, is_buildable, is_ready, is_ready_leaf, is_simple, new_shape}
use Rattle.clap.specs.Takes.{is_given}
use Rattle.clap.specs.Faults.{check_fault, defaults_fault, is_free_app, is_simple_and_free}
use Rattle.sim_words.specs.Given.{is_among}
use Rattle.sim_words.specs.Matches.{option_rule, plain_app}
use Rattle.sim_words.proofs.Lists.{same-text}

-- an option as it is built
abbrev pub ready : Text → Rule
ready name = filled (option_rule name)

abbrev pub ready_shape : List Text → Shape
ready_shape names =
    record (new_shape (codes "artiq_sim")) {
      no_binary_name = true;
      disable_help_flag = true;
      disable_help_subcommand = true;
      is_built = true;
      rules = map ready names;
    }

filled-ready : (i : ℕ) (names : List Text) → filled_from i (map option_rule names) ≡ map ready names
filled-ready i [] = refl
filled-ready i (name ∷ names) = ap (λ (rules : List Rule). ready name ∷ rules) (filled-ready i names)

abbrev shape_with : List Rule → Shape
shape_with rules = record (ready_shape []) { rules = rules }

pub built-ready : (names : List Text) → built (plain_app names) ≡ record { top = ready_shape names; subs = [] }
built-ready names = ap (λ (rules : List Rule). record { top = shape_with rules; subs = [] }) (filled-ready 1 names)

-- ---- simple, and free

all-plain : (names : List Text) → list_all (λ (a : Rule). a.is_simple) (map option_rule names) ≡ true
all-plain [] = refl
all-plain (name ∷ names) = all-plain names

all-simple : (names : List Text) → list_all (λ (a : Rule). a.is_simple) (map ready names) ≡ true
all-simple [] = refl
all-simple (name ∷ names) = all-simple names

all-free : (names : List Text) → list_all (λ (a : Rule). a.is_free) (map ready names) ≡ true
all-free [] = refl
all-free (name ∷ names) = all-free names

none-early : (n : ℕ) (names : List Text) → list_any (is_early_multiple n) (map ready names) ≡ false
none-early n [] = refl
none-early n (name ∷ names) = none-early n names

-- what is built of the command is as simple
abbrev passes : App → App → Bool
passes a made = is_buildable a && (is_ready made.top && list_all is_ready_leaf made.subs)

pub plain-simple : (names : List Text) → is_simple (plain_app names) ≡ true
plain-simple names =
    ap (passes (plain_app names)) (built-ready names)
    ∙ rw (all-plain names, all-simple names, none-early (count_by (λ (a : Rule). is_some a.index) (map ready names)) names) refl

pub plain-free : (names : List Text) → is_simple_and_free (plain_app names) ≡ true
plain-free names =
    rw (plain-simple names) (ap is_free_app (built-ready names) ∙ rw (all-free names) refl)

-- ---- looking up

pub long-there : (name : Text) (names : List Text) → is_among name names ≡ true → arg_by_long (map ready names) name ≡ Some (ready name)
long-there name [] e = absurd (cc)
long-there name (other ∷ names) e = go (bytes_eq other name) refl (long-there name names)
  where
    go : (t : Bool) → bytes_eq other name ≡ t → (is_among name names ≡ true → arg_by_long (map ready names) name ≡ Some (ready name))
        → arg_by_long (map ready (other ∷ names)) name ≡ Some (ready name)
    go true here rest = rw here (ap (λ (n : Text). Some (ready n)) (same-text other name here))
    go false here rest = rw here (rest (rw here at e))

pub long-none : (name : Text) (names : List Text) → is_among name names ≡ false → arg_by_long (map ready names) name ≡ None
long-none name [] e = refl
long-none name (other ∷ names) e = go (bytes_eq other name) refl (long-none name names)
  where
    go : (t : Bool) → bytes_eq other name ≡ t → (is_among name names ≡ false → arg_by_long (map ready names) name ≡ None)
        → arg_by_long (map ready (other ∷ names)) name ≡ None
    go true here rest = absurd (true≢false (rw here at e))
    go false here rest = rw here (rest (rw here at e))

pub id-there : (name : Text) (names : List Text) → is_among name names ≡ true → arg_by_id (map ready names) name ≡ Some (ready name)
id-there name [] e = absurd (cc)
id-there name (other ∷ names) e = go (bytes_eq other name) refl (id-there name names)
  where
    go : (t : Bool) → bytes_eq other name ≡ t → (is_among name names ≡ true → arg_by_id (map ready names) name ≡ Some (ready name))
        → arg_by_id (map ready (other ∷ names)) name ≡ Some (ready name)
    go true here rest = rw here (ap (λ (n : Text). Some (ready n)) (same-text other name here))
    go false here rest = rw here (rest (rw here at e))

-- no option has a place
pub no-place : (i : ℕ) (names : List Text) → arg_by_index (map ready names) i ≡ None
no-place i [] = refl
no-place i (name ∷ names) = no-place i names

-- ---- after the walk

default-stays : (rows : List Row) (name : Text) → with_default rows (ready name) ≡ rows
default-stays rows name = go (has_row name rows) refl
  where
    go : (t : Bool) → has_row name rows ≡ t → with_default rows (ready name) ≡ rows
    go true e = rw e refl
    go false e = rw e refl

pub defaults-stay : (names : List Text) (rows : List Row) → fold with_default rows (map ready names) ≡ rows
defaults-stay [] rows = refl
defaults-stay (name ∷ names) rows =
    ap (λ (r : List Row). fold with_default r (map ready names)) (default-stays rows name) ∙ defaults-stay names rows

pub no-default-fails : (names : List Text) (rows : List Row) → defaults_fault rows (map ready names) ≡ []
unfolding defaults_fault
no-default-fails [] rows = refl
no-default-fails (name ∷ names) rows = go (has_row name rows) refl (no-default-fails names rows)
  where
    go : (t : Bool) → has_row name rows ≡ t → defaults_fault rows (map ready names) ≡ [] → defaults_fault rows (map ready (name ∷ names)) ≡ []
    go true e rest = rw e rest
    go false e rest = rw e rest

none-required : (names : List Text) (rows : List Row) → list_any (λ (a : Rule). a.required && not (is_given a.id rows)) (map ready names) ≡ false
none-required [] rows = refl
none-required (name ∷ names) rows = none-required names rows

pub check-passes : (names : List Text) (rows : List Row) → check_fault (ready_shape names) rows false ≡ []
check-passes names rows = rw (none-required names rows) refl
