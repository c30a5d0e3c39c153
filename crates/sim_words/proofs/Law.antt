-- What clap finds in words is what they give.
use Rattle.std.proofs.Common.{◌≡◌, ◌≢◌, ⊎_elim, ◌==◌, cond, List, [], ◌∷◌, map, Bool, true, false, Option, Some, None, is_some, option_map, refl, sym, ap, subst, ◌∙◌, true≢false, length, arith}
use Rattle.std.specs.Prelude.{option_and_then}
use Rattle.std.specs.Bool.{then_some}
use Rattle.std.specs.List.{list_all}
use Rattle.std.proofs.lemmas.Bool.{lt-ltb}
use Rattle.clap.specs.Walk.{Text, nothing_held, rows_after, rows_of, settled, walk}
use Rattle.clap.specs.Simple.{App, entered, matches_of, names_of}
use Rattle.clap.specs.Faults.{built_fault, entered_fault, fault_of, settle_fault}
use Rattle.clap.specs.Kinds.{HasKind, Kinds}
use Rattle.clap.specs.Matches.{found_of}
use Rattle.clap.specs.Values.{kind_of}
use Rattle.clap.specs.declared.error.Error.{Error}
use Rattle.clap.specs.declared.error.kind.ErrorKind.TheVariants.{OutOfMemory}
use Rattle.clap.specs.declared.parser.matches.ArgMatches.{ArgMatches}
use Rattle.sim_words.specs.Given.{Given, Seen, Whole, Begun, Other, after_hyphen, are_options, behind, given_from, given_of, seen}
use Rattle.sim_words.specs.Matches.{HasOptions, given_at, given_in, is_shaped, option_row, plain_app}
use Rattle.sim_words.proofs.Lists.{Fails, or-none}
use Rattle.sim_words.proofs.Plain.{built-ready, check-passes, defaults-stay, no-default-fails, ready, ready_shape}
use Rattle.sim_words.proofs.Walked.{Agrees, Free, fault_from, goes, rows_from, walk_at}

abbrev ready_app : List Text → App
ready_app names = record { top = ready_shape names; subs = [] }

-- no subcommand is entered
none-entered : (names : List Text) (stop : Option (Text × List Text)) → entered (ready_app names) stop ≡ None
none-entered names None = refl
none-entered names (Some p) = refl

none-below : (names : List Text) (stop : Option (Text × List Text)) → entered_fault (ready_app names) stop ≡ []
none-below names None = refl
none-below names (Some p) = refl

fault-is : (names words : List Text) → fault_of (plain_app names) words ≡ fault_from names (walk_at Free []) words
fault-is names words =
    ap (λ (a : App). built_fault a nothing_held words) (built-ready names) ∙ ready-fault
  where
    ready-fault : built_fault (ready_app names) nothing_held words ≡ fault_from names (walk_at Free []) words
    ready-fault =
        let end = walk (map ready names) [] nothing_held words in
        rw (none-entered names end.stopped, none-below names end.stopped, no-default-fails names (settled (map ready names) end.held).rows, defaults-stay names (settled (map ready names) end.held).rows, check-passes names (settled (map ready names) end.held).rows, or-none (settle_fault (map ready names) false end.held))
        refl

matches-are : (names words : List Text) → matches_of (plain_app names) words ≡ rows_from names (walk_at Free []) words
matches-are names words =
    ap (λ (a : App). rows_after a.top.rules (names_of a) words) (built-ready names)
    ∙ defaults-stay names (settled (map ready names) (walk (map ready names) [] nothing_held words).held).rows

-- where words give options, clap has no fault and finds them; else it has one
pub options-found : (names words : List Text) → list_all is_shaped words ≡ true
    → Agrees names (given_of names words) [] (fault_of (plain_app names) words) (matches_of (plain_app names) words)
options-found names words shaped =
    rw (fault-is names words, matches-are names words) (goes names words shaped Free [] [] tt (λ name. refl))

-- ---- words of another shape

unshaped-none : (word : Text) (waiting : Option Text) (words : List Text) → is_shaped word ≡ false → given_from waiting (word ∷ words) ≡ None
unshaped-none [] waiting words e = absurd (true≢false e)
unshaped-none (b ∷ []) waiting words e = go (b == 45) refl waiting
  where
    go : (t : Bool) → (b == 45) ≡ t → (w : Option Text) → given_from w ((b ∷ []) ∷ words) ≡ None
    go false here w = absurd (true≢false (rw here at e))
    go true here None = rw here refl
    go true here (Some name) = rw here refl
unshaped-none (b ∷ d ∷ text) waiting words e = go (b == 45) refl (d == 45) refl text e waiting
  where
    go : (t : Bool) → (b == 45) ≡ t → (u : Bool) → (d == 45) ≡ u → (rest : Text) → is_shaped (b ∷ d ∷ rest) ≡ false
        → (w : Option Text) → given_from w ((b ∷ d ∷ rest) ∷ words) ≡ None
    go false here u there rest bad w = absurd (true≢false (rw here at bad))
    go true here u there rest bad (Some name) = rw here refl
    go true here false there rest bad None = rw (here, there) refl
    go true here true there [] bad None = rw (here, there) refl
    go true here true there (x ∷ rest) bad None =
        absurd (true≢false (sym (lt-ltb 0 (length (x ∷ rest)) (omega arith)) ∙ (rw (here, there) at bad)))

later-none : (waiting : Option Text) (word : Text) (words : List Text) → ((w : Option Text) → given_from w words ≡ None) → given_from waiting (word ∷ words) ≡ None
later-none (Some name) word words none = go (is_some (after_hyphen word))
  where
    go : (t : Bool) → cond t None (option_map (λ given. record { name = name; value = word } ∷ given) (given_from None words)) ≡ None
    go true = refl
    go false = ap (option_map (λ given. record { name = name; value = word } ∷ given)) (none None)
later-none None word words none = go (seen word)
  where
    go : (s : Seen) → behind s (λ w. given_from w words) ≡ None
    go (Whole name value) = ap (option_map (λ given. record { name = name; value = value } ∷ given)) (none None)
    go (Begun name) = none (Some name)
    go Other = refl

shapes-none : (words : List Text) → list_all is_shaped words ≡ false → (waiting : Option Text) → given_from waiting words ≡ None
shapes-none [] e waiting = absurd (true≢false e)
shapes-none (word ∷ words) e waiting = go (is_shaped word) refl (shapes-none words)
  where
    go : (t : Bool) → is_shaped word ≡ t → (list_all is_shaped words ≡ false → (w : Option Text) → given_from w words ≡ None)
        → given_from waiting (word ∷ words) ≡ None
    go false here rest = unshaped-none word waiting words here
    go true here rest = later-none waiting word words (rest (rw here at e))

pub unshaped-refused : (names words : List Text) → list_all is_shaped words ≡ false → given_of names words ≡ None
unshaped-refused names words e = ap (option_and_then (λ given. then_some (are_options names [] given) given)) (shapes-none words e None)

-- ---- what the matches have

given-back : (given : List Given) → map given_at (map option_row given) ≡ given
given-back [] = refl
given-back (g ∷ given) = ap (λ (gs : List Given). g ∷ gs) (given-back given)

-- matches without a fault have the options that the words give
pub record Finds (names words : List Text) (matches : ArgMatches) : Type 0 where
  pub given : given_of names words ≡ Some (given_in matches)
  pub shape : HasOptions matches

pub found : (names words : List Text) (matches : ArgMatches) → list_all is_shaped words ≡ true → fault_of (plain_app names) words ≡ []
    → rows_of (found_of matches) ≡ matches_of (plain_app names) words → Finds names words matches
found names words matches shaped none rows = go (given_of names words) refl (options-found names words shaped)
  where
    go : (said : Option (List Given)) → given_of names words ≡ said
        → Agrees names said [] (fault_of (plain_app names) words) (matches_of (plain_app names) words) → Finds names words matches
    go None e fails = absurd (subst Fails none fails)
    go (Some given) e agrees =
        let are : rows_of (found_of matches) ≡ map option_row given = rows ∙ agrees.1 in
        let back : given_in matches ≡ given = ap (map given_at) are ∙ given-back given in
        record { given = e ∙ ap (λ (gs : List Given). Some gs) (sym back); shape = are ∙ ap (map option_row) (sym back) }

-- an error that isn't one of memory says that the words give no options
pub not-found : (names words : List Text) (error : Error) → list_all is_shaped words ≡ true → HasKind (fault_of (plain_app names) words) error
    → kind_of error ≢ OutOfMemory → given_of names words ≡ None
not-found names words error shaped kinds other = go (given_of names words) refl (options-found names words shaped)
  where
    go : (said : Option (List Given)) → given_of names words ≡ said
        → Agrees names said [] (fault_of (plain_app names) words) (matches_of (plain_app names) words) → given_of names words ≡ None
    go None e fails = e
    go (Some given) e agrees = absurd (⊎_elim other (λ (b : ⊥). b) (subst (λ (ks : Kinds). HasKind ks error) agrees.0 kinds))
