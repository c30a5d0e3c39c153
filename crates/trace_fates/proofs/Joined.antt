-- The passes together tell the fate of each output.
use Rattle.std.proofs.Common.{◌≡◌, ℕ, ◌+◌, ◌<◌, ◌≤◌, inl, inr, Bool, true, false, List, [], ◌∷◌, ◌++◌, refl, sym, ap, subst, ◌∙◌, length, suc, take, arith}
use Rattle.std.specs.Prelude.{map, nat_eq, nat_le, nat_lt, not, ◌==◌, ◌&&◌, if◌then◌else◌, Option, Some, None}
use Rattle.std.specs.Ordering.{int_eq}
use Rattle.std.proofs.lemmas.Bool.Decides.{nat_tests}
use Rattle.std.proofs.lemmas.List.{length-map, take_at}
use Rattle.rtio_types.specs.declared.event.Event.{Event}
use Rattle.rtio_types.specs.declared.request.Reply.{Reply}
use Rattle.rtio_types.specs.declared.request.Reply.TheVariants as answer
use Rattle.rtio_types.specs.Board.{replaces}
use Rattle.rtio_types.specs.Time.{cycle_of}
use Rattle.output_merge.specs.Outputs.{LogLists}
use Rattle.rtio_core.specs.declared.data.Entry.{Entry}
use Rattle.rtio_core.specs.Core.{CoreState}
use Rattle.rtio_core.specs.Lawful.{IsLawful}
use Rattle.rtio_core.specs.Told.{log_at}
use Rattle.rtio_headline.specs.Headline.{submitted}
use Rattle.trace_fates.specs.declared.data.Fate.{Fate}
use Rattle.trace_fates.specs.declared.data.Fate.TheVariants.{Sequence, Cleared, Collided, Busy}
use Rattle.trace_fates.specs.declared.data.TracedOutput.{TracedOutput}
use Rattle.trace_fates.specs.Asked.{AskedOutput, IsAsked, outputs_of}
use Rattle.trace_fates.specs.Fates.{fate_by, fate_if, is_late, is_listed, overridden_by, overrides, traced}
use Rattle.trace_fates.specs.Passes.{AreNumberedFrom, asked_output, fate_named, fate_over, first_at, is_there, is_late_fate, may_override, named, place_of, with_over}
use Rattle.trace_fates.proofs.Answered.{IsAnsweredRight, answered_right}
use Rattle.trace_fates.proofs.Asking.{done_by, done_in, numbered_of, submitted_done}

-- ---- what the log names

not_late : (s c k b r : Bool) → is_late_fate (fate_if false s c k b None r) ≡ false
not_late true c k b r = refl
not_late false true k b r = refl
not_late false false true b r = refl
not_late false false false true r = refl
not_late false false false false true = refl
not_late false false false false false = refl

named_so : (f old : Fate) (is : Bool) → is_late_fate old ≡ false → fate_named f old is ≡ (if is then f else old)
named_so f old is early = rw early refl

busy_named : (b r : Bool) → fate_named Busy (fate_if false false false false false None r) b ≡ fate_if false false false false b None r
busy_named b r = named_so Busy _ b (not_late false false false false r) ∙ by b
  where
    by : (b : Bool) → (if b then Busy else fate_if false false false false false None r) ≡ fate_if false false false false b None r
    by true = refl
    by false = refl

collided_named : (k b r : Bool) → fate_named Collided (fate_if false false false false b None r) k ≡ fate_if false false false k b None r
collided_named k b r = named_so Collided _ k (not_late false false false b r) ∙ by k
  where
    by : (k : Bool) → (if k then Collided else fate_if false false false false b None r) ≡ fate_if false false false k b None r
    by true = refl
    by false = refl

cleared_named : (c k b r : Bool) → fate_named Cleared (fate_if false false false k b None r) c ≡ fate_if false false c k b None r
cleared_named c k b r = named_so Cleared _ c (not_late false false k b r) ∙ by c
  where
    by : (c : Bool) → (if c then Cleared else fate_if false false false k b None r) ≡ fate_if false false c k b None r
    by true = refl
    by false = refl

sequence_named : (s c k b r : Bool) → fate_named Sequence (fate_if false false c k b None r) s ≡ fate_if false s c k b None r
sequence_named s c k b r = named_so Sequence _ s (not_late false c k b r) ∙ by s
  where
    by : (s : Bool) → (if s then Sequence else fate_if false false c k b None r) ≡ fate_if false s c k b None r
    by true = refl
    by false = refl

all_named : (l s c k b r : Bool) → fate_named Sequence (fate_named Cleared (fate_named Collided (fate_named Busy (fate_if l false false false false None r) b) k) c) s ≡ fate_if l s c k b None r
all_named true s c k b r = refl
all_named false s c k b r =
    ap (λ (f : Fate). fate_named Sequence (fate_named Cleared (fate_named Collided f k) c) s) (busy_named b r)
    ∙ ap (λ (f : Fate). fate_named Sequence (fate_named Cleared f c) s) (collided_named k b r)
    ∙ ap (λ (f : Fate). fate_named Sequence f s) (cleared_named c k b r)
    ∙ sequence_named s c k b r

-- what is told of an output where the log is read, and nothing else
abbrev looked_fate : LogLists → ℕ → AskedOutput → Fate
looked_fate log counter a =
    fate_if (is_late a.reply) (is_listed a.own log.sequence) (is_listed a.own log.cleared) (is_listed a.own log.collided) (is_listed a.own log.busy) None (nat_le (cycle_of a.own.1) counter)

abbrev pub told_as : AskedOutput → Fate → TracedOutput
told_as a fate = record { number = a.own.0; event = a.own.1; at = a.at; fate = fate }

abbrev looked : LogLists → ℕ → AskedOutput → TracedOutput
looked log counter a = told_as a (looked_fate log counter a)

looked_all : (log : LogLists) (counter : ℕ) (xs : List AskedOutput) → map (named log) (map (asked_output counter) xs) ≡ map (looked log counter) xs
looked_all log counter [] = refl
looked_all log counter (a ∷ xs) =
    ap (λ (fate : Fate). told_as a fate ∷ map (named log) (map (asked_output counter) xs))
    (all_named (is_late a.reply) (is_listed a.own log.sequence) (is_listed a.own log.cleared) (is_listed a.own log.collided) (is_listed a.own log.busy) (nat_le (cycle_of a.own.1) counter))
    ∙ ap (λ (us : List TracedOutput). looked log counter a ∷ us) (looked_all log counter xs)

-- ---- what overrides

fate_over_is : (replacing l s c k b : Bool) (by : Option ℕ) (r : Bool) → fate_over replacing (fate_if l s c k b None r) by ≡ fate_if l s c k b (if replacing then by else None) r
fate_over_is false l s c k b by r = refl
fate_over_is true true s c k b by r = refl
fate_over_is true false true c k b by r = refl
fate_over_is true false false true k b by r = refl
fate_over_is true false false false true b by r = refl
fate_over_is true false false false false true by r = refl
fate_over_is true false false false false false (Some n) true = refl
fate_over_is true false false false false false (Some n) false = refl
fate_over_is true false false false false false None true = refl
fate_over_is true false false false false false None false = refl

may_is : (s c k b r : Bool) → may_override (fate_if false s c k b None r) ≡ not s
may_is true c k b r = refl
may_is false true k b r = refl
may_is false false true b r = refl
may_is false false false true r = refl
may_is false false false false true = refl
may_is false false false false false = refl

-- where the channel doesn't replace, nothing does
never : (log : LogLists) (events : List (ℕ × Event)) (p : ℕ × Event) → replaces p.1.channel ≡ false → overridden_by log events p ≡ None
never log [] p raw = refl
never log (other ∷ events) p raw =
    by (replaces p.1.channel) (not (is_listed other log.sequence)) (nat_lt p.0 other.0) (other.1.channel == p.1.channel) (int_eq other.1.stamp p.1.stamp) raw (never log events p raw)
  where
    by : (a b c d e : Bool) → a ≡ false → overridden_by log events p ≡ None → (if a && b && c && d && e then Some other.0 else overridden_by log events p) ≡ None
    by true b c d e is ih = let no : true ≡ false = is in absurd (cc)
    by false b c d e is ih = ih

-- none that isn't later does
skip_done : (log : LogLists) (ys : List (ℕ × Event)) (p : ℕ × Event) (reply : Reply) (q : ℕ × Event) → q.0 ≤ p.0 → overridden_by log (done_by reply q ++ ys) p ≡ overridden_by log ys p
skip_done log ys p answer.Done q le =
    by (replaces p.1.channel && not (is_listed q log.sequence)) (nat_lt p.0 q.0) (q.1.channel == p.1.channel) (int_eq q.1.stamp p.1.stamp) (grind (arith, nat_tests, le))
  where
    by : (a b c d : Bool) → b ≡ false → (if a && b && c && d then Some q.0 else overridden_by log ys p) ≡ overridden_by log ys p
    by a true c d is = let no : true ≡ false = is in absurd (cc)
    by true false c d is = refl
    by false false c d is = refl
skip_done log ys p reply q le = refl

-- one that is later, on a channel that replaces
found_done : (log : LogLists) (ys : List (ℕ × Event)) (p q : ℕ × Event) (c k b r : Bool) (tail : Option ℕ) → replaces p.1.channel ≡ true → p.0 < q.0
    → overridden_by log ys p ≡ tail
    → (if overrides log p q then Some q.0 else overridden_by log ys p)
    ≡ (if may_override (fate_if false (is_listed q log.sequence) c k b None r) && (nat_eq q.1.channel p.1.channel && int_eq q.1.stamp p.1.stamp) then Some q.0 else tail)
found_done log ys p q c k b r tail replacing later rest =
    by (replaces p.1.channel) (is_listed q log.sequence) (nat_lt p.0 q.0) (q.1.channel == p.1.channel) (int_eq q.1.stamp p.1.stamp) replacing (grind (arith, nat_tests, later))
    ∙ ap (λ (m : Bool). if m && (nat_eq q.1.channel p.1.channel && int_eq q.1.stamp p.1.stamp) then Some q.0 else tail) (sym (may_is (is_listed q log.sequence) c k b r))
  where
    by : (a s l d e : Bool) → a ≡ true → l ≡ true → (if a && not s && l && d && e then Some q.0 else overridden_by log ys p) ≡ (if not s && (d && e) then Some q.0 else tail)
    by false s l d e is lt = let no : false ≡ true = is in absurd (cc)
    by true s false d e is lt = let no : false ≡ true = lt in absurd (cc)
    by true true true d e is lt = rest
    by true false true true true is lt = refl
    by true false true true false is lt = rest
    by true false true false e is lt = rest

found_asked : (log : LogLists) (counter : ℕ) (ys : List (ℕ × Event)) (p : ℕ × Event) (a : AskedOutput) (tail : Option ℕ) → replaces p.1.channel ≡ true → p.0 < a.own.0 → IsAnsweredRight a
    → overridden_by log ys p ≡ tail
    → overridden_by log (done_by a.reply a.own ++ ys) p
    ≡ (if may_override (looked log counter a).fate && is_there (place_of a.own.1) (place_of p.1) then Some a.own.0 else tail)
found_asked log counter ys p a tail replacing later (inl (done, before)) rest =
    subst (λ (reply : Reply). overridden_by log (done_by reply a.own ++ ys) p
    ≡ (if may_override (fate_if (is_late reply) (is_listed a.own log.sequence) (is_listed a.own log.cleared) (is_listed a.own log.collided) (is_listed a.own log.busy) None (nat_le (cycle_of a.own.1) counter))
    && is_there (place_of a.own.1) (place_of p.1) then Some a.own.0 else tail))
    (sym done)
    (found_done log ys p a.own (is_listed a.own log.cleared) (is_listed a.own log.collided) (is_listed a.own log.busy) (nat_le (cycle_of a.own.1) counter) tail replacing later rest)
found_asked log counter ys p a tail replacing later (inr (late, after)) rest =
    subst (λ (reply : Reply). overridden_by log (done_by reply a.own ++ ys) p
    ≡ (if may_override (fate_if (is_late reply) (is_listed a.own log.sequence) (is_listed a.own log.cleared) (is_listed a.own log.collided) (is_listed a.own log.busy) None (nat_le (cycle_of a.own.1) counter))
    && is_there (place_of a.own.1) (place_of p.1) then Some a.own.0 else tail))
    (sym late)
    rest

-- the first later one is the first behind it
first_behind : (log : LogLists) (counter first : ℕ) (rest : List AskedOutput) (p : ℕ × Event) → replaces p.1.channel ≡ true → p.0 < first
    → AreNumberedFrom first (map (looked log counter) rest)
    → ((a : AskedOutput) → IsAsked a rest → IsAnsweredRight a)
    → overridden_by log (done_in rest) p ≡ first_at (map (looked log counter) rest) (place_of p.1)
first_behind log counter first [] p replacing later numbers right = refl
first_behind log counter first (a ∷ rest) p replacing later numbers right =
    found_asked log counter (done_in rest) p a (first_at (map (looked log counter) rest) (place_of p.1)) replacing (omega (arith, later, numbers.0)) (right a (inl refl))
    (first_behind log counter (first + 1) rest p replacing (omega (arith, later)) numbers.1 (λ b here. right b (inr here)))

-- each output with its fate, where what came before isn't later
told_all : (log : LogLists) (counter : ℕ) (events : List (ℕ × Event)) (first : ℕ) (rest : List AskedOutput)
    → AreNumberedFrom first (map (looked log counter) rest)
    → ((a : AskedOutput) → IsAsked a rest → IsAnsweredRight a)
    → ((p : ℕ × Event) → first ≤ p.0 + 1 → overridden_by log events p ≡ overridden_by log (done_in rest) p)
    → with_over (map (looked log counter) rest) ≡ map (λ a. told_as a (fate_by log events counter a.own a.reply)) rest
told_all log counter events first [] numbers right skips = refl
told_all log counter events first (a ∷ rest) numbers right skips =
    ap (λ (fate : Fate). told_as a fate ∷ with_over (map (looked log counter) rest)) head
    ∙ ap (λ (us : List TracedOutput). told_as a (fate_by log events counter a.own a.reply) ∷ us)
    (told_all log counter events (first + 1) rest numbers.1 (λ b here. right b (inr here))
    (λ p le. skips p (omega (arith, le)) ∙ skip_done log (done_in rest) p a.reply a.own (omega (arith, le, numbers.0))))
  where
    by_eq : (b : Bool) → replaces a.own.1.channel ≡ b → (if b then first_at (map (looked log counter) rest) (place_of a.own.1) else None) ≡ overridden_by log events a.own
    by_eq true is =
        sym (skips a.own (omega (arith, numbers.0)) ∙ skip_done log (done_in rest) a.own a.reply a.own (omega arith)
        ∙ first_behind log counter (first + 1) rest a.own is (omega (arith, numbers.0)) numbers.1 (λ b here. right b (inr here)))
    by_eq false is = sym (never log events a.own is)

    head : fate_over (replaces a.own.1.channel) (looked_fate log counter a) (first_at (map (looked log counter) rest) (place_of a.own.1)) ≡ fate_by log events counter a.own a.reply
    head =
        fate_over_is (replaces a.own.1.channel) (is_late a.reply) (is_listed a.own log.sequence) (is_listed a.own log.cleared) (is_listed a.own log.collided) (is_listed a.own log.busy) (first_at (map (looked log counter) rest) (place_of a.own.1)) (nat_le (cycle_of a.own.1) counter)
        ∙ ap (λ (by : Option ℕ). fate_if (is_late a.reply) (is_listed a.own log.sequence) (is_listed a.own log.cleared) (is_listed a.own log.collided) (is_listed a.own log.busy) by (nat_le (cycle_of a.own.1) counter))
        (by_eq (replaces a.own.1.channel) refl)

-- whatever the fates are, the numbers are the same
pub numbered_told : (counter first : ℕ) (fates : AskedOutput → Fate) (xs : List AskedOutput) → AreNumberedFrom first (map (asked_output counter) xs) → AreNumberedFrom first (map (λ a. told_as a (fates a)) xs)
numbered_told counter first fates [] h = tt
numbered_told counter first fates (a ∷ xs) h = (h.0, numbered_told counter (first + 1) fates xs h.1)

pub passes_tell : (core : CoreState) → IsLawful core.config core.history
    → with_over (map (named (log_at core.config core.history core.counter)) (map (asked_output core.counter) (outputs_of core.history))) ≡ traced core
passes_tell core lawful =
    let log = log_at core.config core.history core.counter in
    ap with_over (looked_all log core.counter (outputs_of core.history))
    ∙ told_all log core.counter (submitted core.history) 0 (outputs_of core.history)
    (numbered_told core.counter 0 (looked_fate log core.counter) (outputs_of core.history) (numbered_of core.counter core.history))
    (answered_right core.config [] core.history lawful)
    (λ p le. ap (λ (events : List (ℕ × Event)). overridden_by log events p) (submitted_done [] core.history))

over_length : (xs : List TracedOutput) → length (with_over xs) ≡ length xs
over_length [] = refl
over_length (t ∷ xs) = ap suc (over_length xs)

pub asked_numbered : (counter : ℕ) (history : List Entry) (asked : List TracedOutput) → asked ≡ map (asked_output counter) (outputs_of history) → AreNumberedFrom 0 asked
asked_numbered counter history asked is = subst (AreNumberedFrom 0) (sym is) (numbered_of counter history)

-- one after another, each in the place of the one before
pub passes_written : (core : CoreState) (counter n : ℕ) (history : List Entry) (asked first looked' second told rest more : List TracedOutput)
    → IsLawful core.config core.history → counter ≡ core.counter → history ≡ core.history
    → asked ≡ map (asked_output counter) (outputs_of history) → length asked ≡ n
    → first ≡ asked → looked' ≡ map (named (log_at core.config core.history core.counter)) first
    → second ≡ take n (looked' ++ rest) → told ≡ with_over second
    → take n (told ++ more) ≡ traced core
passes_written core counter n history asked first looked' second told rest more lawful counter_is history_is asked_is count first_is looked_is second_is told_is =
    let log = log_at core.config core.history core.counter in
    let looked_length : length looked' ≡ n = ap length looked_is ∙ length-map first (named log) ∙ ap length first_is ∙ count in
    let same : second ≡ looked' = second_is ∙ take_at looked' rest n looked_length in
    let told_length : length told ≡ n = ap length told_is ∙ over_length second ∙ ap length same ∙ looked_length in
    take_at told more n told_length
    ∙ told_is
    ∙ ap with_over
    (same ∙ looked_is
    ∙ ap (map (named log))
    (first_is ∙ asked_is ∙ ap (λ (k : ℕ). map (asked_output k) (outputs_of history)) counter_is ∙ ap (λ (h : List Entry). map (asked_output core.counter) (outputs_of h)) history_is))
    ∙ passes_tell core lawful
