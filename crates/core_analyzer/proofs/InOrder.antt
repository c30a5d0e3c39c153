-- What the test for a waveform tells of the events.
use Rattle.std.proofs.Common.{◌≡◌, ℤ, pos, negsuc, true, List, [], ◌∷◌, refl, arith, inl, inr, ◌<ℤ◌, ◌≤ℤ◌, Some, None, w64, FitsSigned}
use Rattle.std.specs.Prelude.{nat_lt, int_le, int_lt, Option}
use Rattle.std.specs.List.{AllByRecursion, list_all}
use Rattle.std.proofs.lemmas.Bool.{and_parts, and_from, or_cases}
use Rattle.std.proofs.lemmas.Bool.Decides.{Decides-int_eq}
use Rattle.std.proofs.lemmas.Int.{ints}
use Rattle.rtio_types.specs.declared.event.Event.{Event}
use Rattle.recording_bytes.specs.Spelling.{FitsFields}
use Rattle.rtio_headline.specs.Headline.{is_before}
use Rattle.core_analyzer.specs.Dumps.{are_put_out_behind, follows}
use Rattle.core_analyzer.specs.Rising.{are_behind_first_cycle, are_rising, is_behind_first_cycle}
use Rattle.core_analyzer.proofs.Levels.{IsReadable, IsTime}
use Rattle.core_analyzer.proofs.Moments.{DontFall}

-- the stamp of the event before; 0 where there is none
abbrev pub stamp_before : Option Event → ℤ
stamp_before None = pos 0
stamp_before (Some event) = event.stamp

late-means : (event : Event) → is_behind_first_cycle event ≡ true → pos 0 <ℤ event.stamp
late-means event h = grind (arith, ints)

le-means : (a b : ℤ) → int_le a b ≡ true → a ≤ℤ b
le-means a b h = grind (arith, ints)

before-means : (a b : Event) → is_before a b ≡ true → a.stamp ≤ℤ b.stamp
before-means a b h = elim (or_cases (int_lt a.stamp b.stamp) _ h) [
  | inl one ↦ grind (arith, ints)
  | inr two ↦ let same = (Decides-int_eq a.stamp b.stamp).0 (and_parts _ _ two).0 in omega (arith, ints)
]

follows-means : (before : Option Event) (event : Event) → int_le (pos 0) event.stamp ≡ true → follows before event ≡ true → stamp_before before ≤ℤ event.stamp
follows-means None event positive h = le-means (pos 0) event.stamp positive
follows-means (Some before) event positive h = before-means before event h

-- what is known of the first event and of the others
parts : (before : Option Event) (event : Event) (events : List Event) → are_put_out_behind before (event ∷ events) ≡ true →
    (nat_lt event.channel 32 ≡ true) × (int_le (pos 0) event.stamp ≡ true) × (follows before event ≡ true) × (are_put_out_behind (Some event) events ≡ true)
parts before event events h =
    let whole = and_parts _ _ h in
    let behind = and_parts _ _ whole.1 in
    let next = and_parts _ _ behind.0 in
    (whole.0, next.0, next.1, behind.1)

put-out-on-board : (before : Option Event) (events : List Event) → are_put_out_behind before events ≡ true → list_all (λ (event : Event). nat_lt event.channel 32) events ≡ true
put-out-on-board before [] h = refl
put-out-on-board before (event ∷ events) h =
    let p = parts before event events h in
    and_from _ _ p.0 (put-out-on-board (Some event) events p.3)

put-out-dont-fall : (before : Option Event) (events : List Event) → are_put_out_behind before events ≡ true → DontFall (stamp_before before) events
put-out-dont-fall before [] h = tt
put-out-dont-fall before (event ∷ events) h =
    let p = parts before event events h in
    (follows-means before event p.1 p.2, put-out-dont-fall (Some event) events p.3)

late-all : (events : List Event) → are_behind_first_cycle events ≡ true → AllByRecursion (λ (event : Event). pos 0 <ℤ event.stamp) events
late-all [] h = tt
late-all (event ∷ events) h = let p = and_parts _ _ h in (late-means event p.0, late-all events p.1)

pub rising-on-board : (events : List Event) → are_rising events ≡ true → list_all (λ (event : Event). nat_lt event.channel 32) events ≡ true
rising-on-board events h = put-out-on-board None events (and_parts _ _ h).0

pub rising-dont-fall : (events : List Event) → are_rising events ≡ true → DontFall (pos 0) events
rising-dont-fall events h = put-out-dont-fall None events (and_parts _ _ h).0

pub rising-late : (events : List Event) → are_rising events ≡ true → AllByRecursion (λ (event : Event). pos 0 <ℤ event.stamp) events
rising-late events h = late-all events (and_parts _ _ h).1

time-from : (stamp : ℤ) → pos 0 <ℤ stamp → FitsSigned w64 stamp → IsTime stamp
time-from (pos n) late fits = omega (arith, ints)
time-from (negsuc n) late fits = absurd (omega (arith, ints))

readable : (event : Event) → pos 0 <ℤ event.stamp → FitsFields event → IsReadable event
readable event late fits = (omega (arith, fits.0), time-from event.stamp late fits.1)

pub all-readable : (events : List Event) → AllByRecursion (λ (event : Event). pos 0 <ℤ event.stamp) events → AllByRecursion FitsFields events → AllByRecursion IsReadable events
all-readable [] late fits = tt
all-readable (event ∷ events) late fits = (readable event late.0 fits.0, all-readable events late.1 fits.1)
