-- The lines of events by their stamps are their lines one after another.
use Rattle.std.proofs.Common.{◌≡◌, ℕ, ℤ, false, cond, List, [], ◌∷◌, ◌++◌, map, refl, ap, sym, ◌∙◌, arith, inl, inr, ◌<ℤ◌, ◌≤ℤ◌, subst}
use Rattle.std.specs.Prelude.{filter, flat_map}
use Rattle.std.specs.List.{AllByRecursion}
use Rattle.std.specs.Ordering.{int_eq}
use Rattle.std.proofs.lemmas.Bool.{cases_Bool}
use Rattle.std.proofs.lemmas.Bool.Decides.{Decides-int_eq}
use Rattle.std.proofs.lemmas.Int.{ints}
use Rattle.rtio_types.specs.declared.event.Event.{Event}
use Rattle.core_analyzer.specs.Waveform.{data_line, moment_line, moment_lines, stamps_behind, stamps_of}
use Rattle.core_analyzer.specs.Running.{lines_behind}

-- from a stamp on the stamps of events don't fall
abbrev pub DontFall : ℤ → List Event → Type 0
DontFall from [] = Unit {0}
DontFall from (event ∷ events) = (from ≤ℤ event.stamp) × DontFall event.stamp events

-- the lines of the events at a stamp
abbrev lines_at : ℤ → List Event → List (List ℕ)
lines_at stamp events = map (λ (event : Event). data_line event.channel event.value) (filter (λ event. int_eq event.stamp stamp) events)

later-differs : (a b : ℤ) → a <ℤ b → int_eq b a ≡ false
later-differs a b h = elim (cases_Bool (int_eq b a)) [
  | inl one ↦ let same = (Decides-int_eq b a).0 one in absurd (omega (arith, ints))
  | inr two ↦ two
]

earlier-differs : (a b : ℤ) → a <ℤ b → int_eq a b ≡ false
earlier-differs a b h = elim (cases_Bool (int_eq a b)) [
  | inl one ↦ let same = (Decides-int_eq a b).0 one in absurd (omega (arith, ints))
  | inr two ↦ two
]

later-if-differs : (a b : ℤ) → a ≤ℤ b → int_eq b a ≡ false → a <ℤ b
later-if-differs a b h other = elim (cases_Bool (int_eq b a)) [
  | inl one ↦ cc
  | inr two ↦ let apart : b ≡ a → ⊥ = λ same. let yes' = (Decides-int_eq b a).1 same in cc in omega (arith, ints)
]

weaken : (a b : ℤ) (stamps : List ℤ) → a <ℤ b → AllByRecursion (λ s. b <ℤ s) stamps → AllByRecursion (λ s. a <ℤ s) stamps
weaken a b [] h k = tt
weaken a b (s ∷ stamps) h k = (let l = k.0 in omega (arith, ints), weaken a b stamps h k.1)

-- the stamps behind a stamp are later
stamps-later : (before : ℤ) (events : List Event) → DontFall before events → AllByRecursion (λ s. before <ℤ s) (stamps_behind before events)
stamps-later before [] h = tt
stamps-later before (event ∷ events) h = elim (cases_Bool (int_eq event.stamp before)) [
  | inl one ↦
      let same = (Decides-int_eq event.stamp before).0 one in
      let rest : DontFall before events = subst (λ s. DontFall s events) same h.1 in
      subst (λ b. AllByRecursion (λ s. before <ℤ s) (cond b (stamps_behind before events) (event.stamp ∷ stamps_behind event.stamp events))) (sym one) (stamps-later before events rest)
  | inr two ↦
      let later = later-if-differs before event.stamp h.0 two in
      subst (λ b. AllByRecursion (λ s. before <ℤ s) (cond b (stamps_behind before events) (event.stamp ∷ stamps_behind event.stamp events))) (sym two)
      (later, weaken before event.stamp _ later (stamps-later event.stamp events h.1))
]

-- no event of a later stamp stands among those of a stamp
none-at : (stamp from : ℤ) (events : List Event) → stamp <ℤ from → DontFall from events → lines_at stamp events ≡ []
none-at stamp from [] h k = refl
none-at stamp from (event ∷ events) h k =
    let later : stamp <ℤ event.stamp = let l = k.0 in omega (arith, ints) in
    ap (λ b. map (λ (event : Event). data_line event.channel event.value) (cond b (event ∷ filter (λ e. int_eq e.stamp stamp) events) (filter (λ e. int_eq e.stamp stamp) events))) (later-differs stamp event.stamp later)
    ∙ none-at stamp event.stamp events later k.1

-- an event of an earlier stamp has no line at later ones
earlier-left : (event : Event) (events : List Event) (stamps : List ℤ) → AllByRecursion (λ s. event.stamp <ℤ s) stamps →
    flat_map (moment_lines (event ∷ events)) stamps ≡ flat_map (moment_lines events) stamps
earlier-left event events [] h = refl
earlier-left event events (s ∷ stamps) h =
    ap (λ b. (moment_line s ∷ map (λ (event : Event). data_line event.channel event.value) (cond b (event ∷ filter (λ e. int_eq e.stamp s) events) (filter (λ e. int_eq e.stamp s) events)))
    ++ flat_map (moment_lines (event ∷ events)) stamps) (earlier-differs event.stamp s h.0)
    ∙ ap (λ (rest : List (List ℕ)). moment_lines events s ++ rest) (earlier-left event events stamps h.1)

-- the lines of a stamp begin with its own and with that of its first event
first-at : (event : Event) (events : List Event) → moment_lines (event ∷ events) event.stamp ≡ moment_line event.stamp ∷ data_line event.channel event.value ∷ lines_at event.stamp events
first-at event events =
    ap (λ b. moment_line event.stamp ∷ map (λ (event : Event). data_line event.channel event.value) (cond b (event ∷ filter (λ e. int_eq e.stamp event.stamp) events) (filter (λ e. int_eq e.stamp event.stamp) events)))
    ((Decides-int_eq event.stamp event.stamp).1 refl)

-- the first event of a stamp, if those behind it are by their stamps
with-first : (event : Event) (events : List Event) → DontFall event.stamp events →
    lines_behind event.stamp events ≡ lines_at event.stamp events ++ flat_map (moment_lines events) (stamps_behind event.stamp events) →
    moment_line event.stamp ∷ data_line event.channel event.value ∷ lines_behind event.stamp events ≡ flat_map (moment_lines (event ∷ events)) (stamps_of (event ∷ events))
with-first event events h behind =
    let stamps = stamps_behind event.stamp events in
    ap (λ (rest : List (List ℕ)). moment_line event.stamp ∷ data_line event.channel event.value ∷ rest) behind
    ∙ ap (λ (rest : List (List ℕ)). (moment_line event.stamp ∷ data_line event.channel event.value ∷ lines_at event.stamp events) ++ rest) (sym (earlier-left event events stamps (stamps-later event.stamp events h)))
    ∙ ap (λ (front : List (List ℕ)). front ++ flat_map (moment_lines (event ∷ events)) stamps) (sym (first-at event events))

-- another event of the same stamp
same-stamp : (before : ℤ) (event : Event) (events : List Event) → DontFall event.stamp events → event.stamp ≡ before →
    lines_behind event.stamp events ≡ lines_at event.stamp events ++ flat_map (moment_lines events) (stamps_behind event.stamp events) →
    lines_behind before (event ∷ events) ≡ lines_at before (event ∷ events) ++ flat_map (moment_lines (event ∷ events)) (stamps_behind before (event ∷ events))
same-stamp before event events h same behind =
    let yes' = (Decides-int_eq event.stamp event.stamp).1 refl in
    let line = data_line event.channel event.value in
    let at-own : lines_behind event.stamp (event ∷ events) ≡ lines_at event.stamp (event ∷ events) ++ flat_map (moment_lines (event ∷ events)) (stamps_behind event.stamp (event ∷ events)) =
    rw yes' (ap (λ (rest : List (List ℕ)). line ∷ rest) (behind
    ∙ ap (λ (rest : List (List ℕ)). lines_at event.stamp events ++ rest) (sym (earlier-left event events (stamps_behind event.stamp events) (stamps-later event.stamp events h))))) in
    subst (λ s. lines_behind s (event ∷ events) ≡ lines_at s (event ∷ events) ++ flat_map (moment_lines (event ∷ events)) (stamps_behind s (event ∷ events))) same at-own

-- the first event of a later stamp
next-stamp : (before : ℤ) (event : Event) (events : List Event) → before <ℤ event.stamp → DontFall event.stamp events →
    lines_behind event.stamp events ≡ lines_at event.stamp events ++ flat_map (moment_lines events) (stamps_behind event.stamp events) →
    lines_behind before (event ∷ events) ≡ lines_at before (event ∷ events) ++ flat_map (moment_lines (event ∷ events)) (stamps_behind before (event ∷ events))
next-stamp before event events later h behind =
    let no' = later-differs before event.stamp later in
    let all-later : DontFall before (event ∷ events) = (omega (arith, ints), h) in
    rw no' (with-first event events h behind ∙ ap (λ (front : List (List ℕ)). front ++ flat_map (moment_lines (event ∷ events)) (stamps_of (event ∷ events))) (sym (none-at before event.stamp events later h)))

-- behind a stamp come the other events of it, and then those of the later stamps
by-stamps : (before : ℤ) (events : List Event) → DontFall before events →
    lines_behind before events ≡ lines_at before events ++ flat_map (moment_lines events) (stamps_behind before events)
by-stamps before [] h = refl
by-stamps before (event ∷ events) h = elim (cases_Bool (int_eq event.stamp before)) [
  | inl one ↦ same-stamp before event events h.1 ((Decides-int_eq event.stamp before).0 one) (by-stamps event.stamp events h.1)
  | inr two ↦ next-stamp before event events (later-if-differs before event.stamp h.0 two) h.1 (by-stamps event.stamp events h.1)
]

-- the lines of events whose stamps don't fall from one that is later than this
pub moments-lines : (before : ℤ) (events : List Event) → AllByRecursion (λ (event : Event). before <ℤ event.stamp) events → DontFall before events → lines_behind before events ≡ flat_map (moment_lines events) (stamps_of events)
moments-lines before [] h k = refl
moments-lines before (event ∷ events) h k = rw (later-differs before event.stamp h.0) (with-first event events k.1 (by-stamps event.stamp events k.1))
