-- Words that go round.
use Rattle.std.proofs.Common.{◌≡◌, ℕ, ◌+◌, ◌<◌, ◌≤◌, List, [], ◌∷◌, ◌++◌, length, map, take, drop, get_or, Bool, true, false, ◌||◌, ◌&&◌, ◌==◌, refl, sym, ap, ap₂, subst, ◌∙◌, arith}
use Rattle.std.specs.Prelude.{nat_lt, nat_le, IsTrue, if◌then◌else◌}
use Rattle.std.specs.List.{list_all, list_any}
use Rattle.std.proofs.lemmas.List.{map-append, drop_more, take_more, drop_all, append_assoc, take-append-drop, length-drop, length-take-le, length-append, length-map, append-nil, take_all}
use Rattle.std.proofs.lemmas.List.Folds.{list_any-append}
use Rattle.std.proofs.lemmas.Bool.{leb-true, ltb-false}
use Rattle.run_schedule.specs.declared.schedule.Step.{Step}
use Rattle.run_schedule.specs.declared.schedule.Step.TheVariants.{Cpu, Tick}
use Rattle.run_schedule.specs.Schedules.{first_step, turned, letter_step, is_cpu, is_word, ticks_in, ScheduleState, Letters, ComesNearer, after_step, ticks_before_cpu}
use Rattle.arrayvec.specs.ArrayVec.{ArrayVec as Items}
use Rattle.run_schedule.specs.declared.schedule.Kind.{Kind}
use Rattle.run_schedule.specs.declared.schedule.Kind.TheVariants as kind
use Rattle.run_schedule.specs.Kinds.{word_from, kind_state, IsKind}

-- ---- steps of the processor

by-test : (b : Bool) → is_cpu (if b then Cpu else Tick) ≡ b
by-test true = refl
by-test false = refl

any-cpu : (word : List ℕ) → list_any is_cpu (map letter_step word) ≡ list_any (λ c. c == 99) word
any-cpu [] = refl
any-cpu (c ∷ word) = ap₂ ◌||◌ (by-test (c == 99)) (any-cpu word)

-- fewer ticks stand at the front of a word than it has steps
fewer : (word : List Step) → list_any is_cpu word ≡ true → ticks_in word < length word
fewer [] has = absurd (cc)
fewer (Cpu ∷ word) has = omega arith
fewer (Tick ∷ word) has = let f = fewer word has in omega (arith, f)

more-behind : (word : List Step) (step : Step) → list_any is_cpu word ≡ true → ticks_in (word ++ step ∷ []) ≡ ticks_in word
more-behind [] step has = absurd (cc)
more-behind (Cpu ∷ word) step has = refl
more-behind (Tick ∷ word) step has = ap (λ n. n + 1) (more-behind word step has)

-- a tick brings the step of the processor nearer
pub nearer : (word : List Step) → list_any is_cpu word ≡ true → first_step word ≡ Tick → ticks_in (turned word) < ticks_in word
nearer [] has tick = absurd (cc)
nearer (Cpu ∷ word) has tick = absurd (cc)
nearer (Tick ∷ word) has tick = let e = more-behind word Tick has in omega (arith, e)

-- ---- a place in a word

and-right : (a b : Bool) → (a && b) ≡ true → b ≡ true
and-right true b both = both
and-right false b both = absurd (cc)

and-left : (a b : Bool) → (a && b) ≡ true → a ≡ true
and-left true b both = refl
and-left false b both = absurd (cc)

either-order : (p : ℕ → Bool) (xs ys : List ℕ) → list_any p (xs ++ ys) ≡ true → list_any p (ys ++ xs) ≡ true
either-order p xs ys has = list_any-append p ys xs ∙ swap (list_any p xs) (list_any p ys) (sym (list_any-append p xs ys) ∙ has)
  where
    swap : (a b : Bool) → (a || b) ≡ true → (b || a) ≡ true
    swap true true has = refl
    swap true false has = refl
    swap false true has = refl
    swap false false has = has

-- the word from a place on, as steps
abbrev steps_from : List ℕ → ℕ → List Step
steps_from word place = map letter_step (word_from word place)

pub has-cpu : (word : List ℕ) (place : ℕ) → IsTrue (is_word word) → list_any is_cpu (steps_from word place) ≡ true
has-cpu word place formed =
    let letters : Bool = list_all (λ c. (c == 99) || (c == 116)) word in
    let any : Bool = list_any (λ c. c == 99) word in
    let there : any ≡ true = and-right (nat_le 1 (length word) && nat_le (length word) 64 && letters) any formed in
    let whole = subst (λ (w : List ℕ). list_any (λ c. c == 99) w ≡ true) (sym (take-append-drop place word)) there in
    any-cpu (word_from word place) ∙ either-order (λ c. c == 99) (take place word) (drop place word) whole

word-few : (word : List ℕ) → IsTrue (is_word word) → nat_le (length word) 64 ≡ true
word-few word formed =
    let letters : Bool = list_all (λ c. (c == 99) || (c == 116)) word in
    let any : Bool = list_any (λ c. c == 99) word in
    and-right (nat_le 1 (length word)) (nat_le (length word) 64)
    (and-left (nat_le 1 (length word) && nat_le (length word) 64) letters (and-left (nat_le 1 (length word) && nat_le (length word) 64 && letters) any formed))

steps-few : (word : List ℕ) (place : ℕ) → IsTrue (is_word word) → place < length word → length (steps_from word place) ≤ 64
steps-few word place formed below =
    let few : length word ≤ 64 = leb-true (length word) 64 (word-few word formed) in
    let n : length (steps_from word place) ≡ length word =
    length-map (word_from word place) letter_step ∙ length-append (drop place word) (take place word) ∙ ap₂ ◌+◌ (length-drop place word) (length-take-le place word (omega (arith, below))) ∙ omega (arith, below) in
    omega (arith, n, few)

pub bounded : (word : List ℕ) (place : ℕ) → IsTrue (is_word word) → place < length word → ticks_in (steps_from word place) ≤ 63
bounded word place formed below =
    let f = fewer (steps_from word place) (has-cpu word place formed) in
    let few = steps-few word place formed below in
    omega (arith, f, few)

pub first-there : (word : List ℕ) (place d : ℕ) → place < length word → letter_step (get_or word place d) ≡ first_step (steps_from word place)
first-there word place d below =
    let e : steps_from word place ≡ map letter_step (get_or word place d ∷ drop (place + 1) word ++ take place word) = ap (λ (l : List ℕ). map letter_step (l ++ take place word)) (drop_more word place d below) in
    sym (ap first_step e)

pub turned-there : (word : List ℕ) (place : ℕ) → place < length word → steps_from word (if nat_lt (place + 1) (length word) then place + 1 else 0) ≡ turned (steps_from word place)
turned-there word place below =
    let x : ℕ = get_or word place 0 in
    let e : steps_from word place ≡ map letter_step (x ∷ drop (place + 1) word ++ take place word) = ap (λ (l : List ℕ). map letter_step (l ++ take place word)) (drop_more word place 0 below) in
    let t : turned (steps_from word place) ≡ map letter_step (drop (place + 1) word ++ take place word) ++ map letter_step (x ∷ []) = ap turned e in
    let m : turned (steps_from word place) ≡ map letter_step (drop (place + 1) word ++ take place word ++ x ∷ []) = t ∙ sym (map-append letter_step (drop (place + 1) word ++ take place word) (x ∷ [])) in
    let n : turned (steps_from word place) ≡ steps_from word (place + 1) =
    m ∙ ap (λ (l : List ℕ). map letter_step l) (append_assoc (drop (place + 1) word) (take place word) (x ∷ []) ∙ ap (λ (l : List ℕ). drop (place + 1) word ++ l) (sym (take_more word place 0 below))) in
    sym (n ∙ by-test (nat_lt (place + 1) (length word)) refl)
  where
    round : place + 1 ≡ length word → steps_from word (place + 1) ≡ steps_from word 0
    round end = ap (map letter_step) (ap₂ ◌++◌ (drop_all (place + 1) word (omega (arith, end))) (take_all (place + 1) word (omega (arith, end))) ∙ sym (append-nil word))

    by-test : (b : Bool) → nat_lt (place + 1) (length word) ≡ b → steps_from word (place + 1) ≡ steps_from word (if b then place + 1 else 0)
    by-test true test = refl
    by-test false test = let far : length word ≤ place + 1 = ltb-false (place + 1) (length word) test in round (omega (arith, below, far))

-- ---- the kinds

of-kind : (k : Kind) → IsKind k → ticks_before_cpu (kind_state k) ≤ 63
of-kind kind.Lockstep ok = omega arith
of-kind (kind.Letters word place) ok = bounded word.items place ok.0 ok.1
of-kind (kind.Mix x ticks) ok = omega arith

pub bound : (k : Kind) (s : ScheduleState) → kind_state k ≡ s → IsKind k → ticks_before_cpu s ≤ 63
bound k s is ok = subst (λ (s : ScheduleState). ticks_before_cpu s ≤ 63) is (of-kind k ok)

near : (word later : List Step) (held : Bool) (step : Step) → list_any is_cpu word ≡ true → step ≡ first_step word → later ≡ turned word → ComesNearer (Letters word) held step (Letters later)
near word later held Cpu has first turn = tt
near word later held Tick has first turn = rw turn (nearer word has (sym first))

pub letters-after : (k : Kind) (s : ScheduleState) (word : Items ℕ) (place next : ℕ) → kind_state k ≡ s → k ≡ kind.Letters word place → place < length word.items
    → next ≡ (if nat_lt (place + 1) (length word.items) then place + 1 else 0) → kind_state (kind.Letters word next) ≡ after_step s
letters-after k s word place next is letters below goes =
    ap (λ (n : ℕ). Letters (steps_from word.items n)) goes ∙ ap Letters (turned-there word.items place below) ∙ ap after_step (sym (ap kind_state letters) ∙ is)

pub letters-nearer : (k : Kind) (s : ScheduleState) (word : Items ℕ) (items : List ℕ) (place d next : ℕ) (held : Bool) (step : Step) → items ≡ word.items → kind_state k ≡ s → IsKind k → k ≡ kind.Letters word place → place < length word.items
    → next ≡ (if nat_lt (place + 1) (length word.items) then place + 1 else 0) → step ≡ letter_step (get_or items place d) → ComesNearer s held step (kind_state (kind.Letters word next))
letters-nearer k s word items place d next held step same is ok letters below goes steps =
    let formed : IsKind (kind.Letters word place) = subst IsKind letters ok in
    subst (λ (s : ScheduleState). ComesNearer s held step (kind_state (kind.Letters word next))) (sym (ap kind_state letters) ∙ is)
    (near (steps_from word.items place) (steps_from word.items next) held step (has-cpu word.items place formed.0) (steps ∙ ap (λ (l : List ℕ). letter_step (get_or l place d)) same ∙ first-there word.items place d below)
    (ap (λ (n : ℕ). steps_from word.items n) goes ∙ turned-there word.items place below))

-- ---- the bound stays

ends-early : (word : List Step) → ticks_in (word ++ Cpu ∷ []) ≤ length word
ends-early [] = omega arith
ends-early (Cpu ∷ word) = omega arith
ends-early (Tick ∷ word) = let e = ends-early word in omega (arith, e)

turned-few : (word : List Step) → list_any is_cpu word ≡ true → length word ≤ 64 → ticks_in (turned word) ≤ 63
turned-few [] has few = absurd (cc)
turned-few (Cpu ∷ word) has few = let e = ends-early word in omega (arith, e, few)
turned-few (Tick ∷ word) has few = let e = more-behind word Tick has in let f = fewer word has in omega (arith, e, f, few)

of-kind-after : (k : Kind) → IsKind k → ticks_before_cpu (after_step (kind_state k)) ≤ 63
of-kind-after kind.Lockstep ok = omega arith
of-kind-after (kind.Letters word place) ok = turned-few (steps_from word.items place) (has-cpu word.items place ok.0) (steps-few word.items place ok.0 ok.1)
of-kind-after (kind.Mix x ticks) ok = omega arith

pub bound-after : (k : Kind) (s : ScheduleState) → kind_state k ≡ s → IsKind k → ticks_before_cpu (after_step s) ≤ 63
bound-after k s is ok = subst (λ (s : ScheduleState). ticks_before_cpu (after_step s) ≤ 63) is (of-kind-after k ok)
