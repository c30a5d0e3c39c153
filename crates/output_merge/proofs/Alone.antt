-- An event that is alone in its group doesn't collide, and one of a channel without a hold isn't busy.
use Rattle.std.proofs.Common.{inl, inr, ◌≡◌, ℕ, ◌-◌, ◌<◌, Bool, true, false, List, [], ◌∷◌, ◌++◌, length, refl, ap, ◌∙◌, sym, cond, arith}
use Rattle.std.specs.Prelude.{filter, nat_lt, ◌==◌, ◌&&◌, ◌||◌}
use Rattle.std.specs.List.{list_all}
use Rattle.std.specs.Ordering.{int_eq}
use Rattle.std.proofs.lemmas.Bool.{and_parts, eq-eqb, lt-ltb, ltb-true}
use Rattle.std.proofs.lemmas.Bool.Decides.{nat_tests}
use Rattle.rtio_types.specs.declared.event.Event.{Event}
use Rattle.rtio_types.specs.Board.{replaces}
use Rattle.rtio_types.specs.Time.{cycle_of}
use Rattle.sed_lanes.proofs.InOrder.{in-all}
use Rattle.sed_lanes.proofs.Uniques.{IsIn, sorted-in}
use Rattle.output_merge.specs.Busy.{busy, busy_behind, hold_of, is_busy, keeps_busy}
use Rattle.output_merge.specs.Groups.{collisions, group_of, is_collision, is_logged_before, part_in, part_of}
use Rattle.output_merge.specs.declared.group.Part.TheVariants.{Collision, Keeper, Overridden}

in-filter : {X : Type 0} (test : X → Bool) (xs : List X) (z : X) → IsIn z (filter test xs) → IsIn z xs × (test z ≡ true)
in-filter test [] z here = absurd here
in-filter test (x ∷ xs) z here = part (test x) refl (in-filter test xs z) here
  where
    part : (b : Bool) → test x ≡ b → (IsIn z (filter test xs) → IsIn z xs × (test z ≡ true)) → IsIn z (cond b (x ∷ filter test xs) (filter test xs)) → IsIn z (x ∷ xs) × (test z ≡ true)
    part true is ih (inl same) = (inl same, ap test same ∙ is)
    part true is ih (inr there) = (inr (ih there).0, (ih there).1)
    part false is ih there = (inr (ih there).0, (ih there).1)

passes-in : {X : Type 0} (test : X → Bool) (xs : List X) (z : X) → IsIn z xs → test z ≡ true → IsIn z (filter test xs)
passes-in test [] z here is = absurd here
passes-in test (x ∷ xs) z (inl same) is = let head : test x ≡ true = ap test (sym same) ∙ is in rw head (inl same)
passes-in test (x ∷ xs) z (inr there) is = behind (test x) (passes-in test xs z there is)
  where
    behind : (b : Bool) → IsIn z (filter test xs) → IsIn z (cond b (x ∷ filter test xs) (filter test xs))
    behind true ih = inr ih
    behind false ih = ih

-- an event is in its own group
in-group : (events : List (ℕ × Event)) (p : ℕ × Event) → IsIn p events → IsIn p (group_of p.1 events)
in-group events p here =
    passes-in (λ q. (q.1.channel == p.1.channel) && (cycle_of q.1 == cycle_of p.1)) events p here
    (rw (eq-eqb p.1.channel p.1.channel refl, eq-eqb (cycle_of p.1) (cycle_of p.1) refl) refl)

-- alone in a group it is put out
pub alone-keeper : (p : ℕ × Event) → part_in (p ∷ []) p ≡ Keeper
alone-keeper p = by-channel (replaces p.1.channel)
  where
    stamp : int_eq p.1.stamp p.1.stamp ≡ true
    stamp = grind (arith, nat_tests)

    by-channel : (b : Bool) → cond b (cond (int_eq p.1.stamp p.1.stamp) (cond (p.0 == p.0) Keeper Overridden) Collision) (cond (p.0 == p.0) Keeper Collision) ≡ Keeper
    by-channel true = rw (stamp, eq-eqb p.0 p.0 refl) refl
    by-channel false = rw (eq-eqb p.0 p.0 refl) refl

alone-kept : (p : ℕ × Event) → is_collision (part_in (p ∷ []) p) ≡ false
alone-kept p = ap is_collision (alone-keeper p)

-- one that collides has company
collides-in : (group : List (ℕ × Event)) (p : ℕ × Event) → IsIn p group → is_collision (part_in group p) ≡ true → nat_lt 1 (length group) ≡ true
collides-in [] p here collides = absurd here
collides-in (q ∷ []) p (inl same) collides =
    let no : true ≡ false = sym collides ∙ ap (λ (x : ℕ × Event). is_collision (part_in (x ∷ []) p)) (sym same) ∙ alone-kept p in absurd (cc)
collides-in (q ∷ []) p (inr there) collides = absurd there
collides-in (q ∷ r ∷ rest) p here collides = grind (arith, nat_tests)

-- each event that collides is in a group of more than one
pub collisions-have-company : (events : List (ℕ × Event)) → list_all (λ p. nat_lt 1 (length (group_of p.1 events))) (collisions events) ≡ true
collisions-have-company events = in-all (λ p. nat_lt 1 (length (group_of p.1 events))) (collisions events) each
  where
    each : (p : ℕ × Event) → IsIn p (collisions events) → nat_lt 1 (length (group_of p.1 events)) ≡ true
    each p here =
        let parts = in-filter (λ q. is_collision (part_of events q)) events p (sorted-in is_logged_before p (filter (λ q. is_collision (part_of events q)) events) here) in
        collides-in (group_of p.1 events) p (in-group events p parts.0) parts.1

-- a channel that is busy has a hold of more than one cycle
held-long : (holds : List ℕ) (out : List (ℕ × Event)) (p : ℕ × Event) → is_busy holds out p ≡ true → nat_lt 1 (hold_of holds p.1.channel) ≡ true
held-long holds [] p is = absurd (cc)
held-long holds (q ∷ out) p is = by-one (keeps_busy holds q p) refl (held-long holds out p) is
  where
    long : (b : Bool) (c d h : ℕ) → (b && (nat_lt c d && nat_lt (d - c) h)) ≡ true → nat_lt 1 h ≡ true
    long true c d h both =
        let parts = and_parts (nat_lt c d) (nat_lt (d - c) h) both in
        let one : c < d = ltb-true c d parts.0 in
        let other : d - c < h = ltb-true (d - c) h parts.1 in
        lt-ltb 1 h (omega (arith, one, other))
    long false c d h both = absurd (cc)

    by-one : (b : Bool) → keeps_busy holds q p ≡ b → (is_busy holds out p ≡ true → nat_lt 1 (hold_of holds p.1.channel) ≡ true) → (b || is_busy holds out p) ≡ true → nat_lt 1 (hold_of holds p.1.channel) ≡ true
    by-one true here ih both = long (q.1.channel == p.1.channel) (cycle_of q.1) (cycle_of p.1) (hold_of holds p.1.channel) here
    by-one false here ih both = ih both

all-held : (holds : List ℕ) (out keepers : List (ℕ × Event)) (z : ℕ × Event) → IsIn z (busy_behind holds out keepers) → nat_lt 1 (hold_of holds z.1.channel) ≡ true
all-held holds out [] z here = absurd here
all-held holds out (p ∷ rest) z here = at (is_busy holds out p) refl (all-held holds out rest z) (all-held holds (out ++ p ∷ []) rest z) here
  where
    at : (b : Bool) → is_busy holds out p ≡ b → (IsIn z (busy_behind holds out rest) → nat_lt 1 (hold_of holds z.1.channel) ≡ true) → (IsIn z (busy_behind holds (out ++ p ∷ []) rest) → nat_lt 1 (hold_of holds z.1.channel) ≡ true) → IsIn z (cond b (p ∷ busy_behind holds out rest) (busy_behind holds (out ++ p ∷ []) rest)) → nat_lt 1 (hold_of holds z.1.channel) ≡ true
    at true is busy free (inl same) = ap (λ (x : ℕ × Event). nat_lt 1 (hold_of holds x.1.channel)) same ∙ held-long holds out p is
    at true is busy free (inr there) = busy there
    at false is busy free there = free there

-- each event that is busy is of a channel with such a hold
pub busy-have-holds : (holds : List ℕ) (keepers : List (ℕ × Event)) → list_all (λ p. nat_lt 1 (hold_of holds p.1.channel)) (busy holds keepers) ≡ true
busy-have-holds holds keepers =
    in-all (λ p. nat_lt 1 (hold_of holds p.1.channel)) (busy holds keepers) (λ p here. all-held holds [] keepers p (sorted-in is_logged_before p (busy_behind holds [] keepers) here))
