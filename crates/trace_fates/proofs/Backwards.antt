-- One output more, from the back.
use Rattle.std.proofs.Common.{◌≡◌, ℕ, ◌+◌, ◌<◌, ◌≤◌, Bool, true, false, List, [], ◌∷◌, ◌++◌, sym, ap, ◌∙◌, append_assoc, append-nil, length, get_or, set, take, drop, cond, arith}
use Rattle.std.specs.Prelude.{ℤ, Option, Some, ◌&&◌}
use Rattle.std.proofs.lemmas.List.{drop_all, drop_more, get_or_at, length-take-le, set_at, take_all, take_more}
use Rattle.trace_fates.specs.declared.data.Fate.{Fate}
use Rattle.trace_fates.specs.declared.data.TracedOutput.{TracedOutput}
use Rattle.trace_fates.specs.Passes.{first_at, is_there, may_override, over, over_fate, place_of, with_over}

-- those up to a place stand as they were, and those behind it have the fates that those behind them give them
abbrev pub IsTold : List TracedOutput → List TracedOutput → ℕ → Type 0
IsTold old now i = now ≡ take i old ++ with_over (drop i old)

pub told_none : (old : List TracedOutput) (i : ℕ) → length old ≤ i → IsTold old old i
told_none old i le =
    sym (append-nil old)
    ∙ ap (λ (us : List TracedOutput). us ++ []) (sym (take_all i old le))
    ∙ ap (λ (us : List TracedOutput). take i old ++ with_over us) (sym (drop_all i old le))

split_there : (old behind : List TracedOutput) (i : ℕ) (d : TracedOutput) → i < length old → take (i + 1) old ++ behind ≡ take i old ++ get_or old i d ∷ behind
split_there old behind i d lt =
    ap (λ (us : List TracedOutput). us ++ behind) (take_more old i d lt) ∙ append_assoc (take i old) (get_or old i d ∷ []) behind

pub told_read : (old now : List TracedOutput) (i : ℕ) (d : TracedOutput) → i < length old → IsTold old now (i + 1) → get_or now i d ≡ get_or old i d
told_read old now i d lt told =
    ap (λ (us : List TracedOutput). get_or us i d) (told ∙ split_there old (with_over (drop (i + 1) old)) i d lt)
    ∙ get_or_at (take i old) (get_or old i d) (with_over (drop (i + 1) old)) d i (length-take-le i old (omega (arith, lt)))

pub told_more : (old now : List TracedOutput) (i : ℕ) (d : TracedOutput) → i < length old → IsTold old now (i + 1)
    → IsTold old (set now i (over (get_or old i d) (drop (i + 1) old))) i
told_more old now i d lt told =
    let new : TracedOutput = over (get_or old i d) (drop (i + 1) old) in
    ap (λ (us : List TracedOutput). set us i new) (told ∙ split_there old (with_over (drop (i + 1) old)) i d lt)
    ∙ set_at (take i old) (get_or old i d) (with_over (drop (i + 1) old)) new i (length-take-le i old (omega (arith, lt)))
    ∙ ap (λ (us : List TracedOutput). take i old ++ with_over us) (sym (drop_more old i d lt))

-- the first one at a channel and stamp
pub first_more : (old : List TracedOutput) (i : ℕ) (d : TracedOutput) (place : ℕ × ℤ) → i < length old
    → first_at (drop i old) place ≡ cond (may_override (get_or old i d).fate && is_there (place_of (get_or old i d).event) place) (Some (get_or old i d).number) (first_at (drop (i + 1) old) place)
first_more old i d place lt = ap (λ (us : List TracedOutput). first_at us place) (drop_more old i d lt)

-- ---- a step of the walk, where what is behind is known by channel and stamp

-- the number that is known at each channel and stamp is that of the first one there
abbrev pub Knows : (ℕ × ℤ → Option ℕ) → List TracedOutput → Type 0
Knows known behind = (place : ℕ × ℤ) → known place ≡ first_at behind place

pub told_step : (old now : List TracedOutput) (i : ℕ) (d : TracedOutput) (known : ℕ × ℤ → Option ℕ) (by : Option ℕ) (told : Fate) → i < length old
    → IsTold old now (i + 1) → Knows known (drop (i + 1) old)
    → by ≡ known (place_of (get_or now i d).event) → told ≡ over_fate (get_or now i d) by
    → IsTold old (set now i (record (get_or now i d) { fate = told })) i
told_step old now i d known by told lt before knows by_is told_is =
    ap (λ (f : Fate). set now i (record (get_or now i d) { fate = f }))
    (told_is ∙ ap (over_fate (get_or now i d)) (by_is ∙ knows (place_of (get_or now i d).event)))
    ∙ ap (λ (t : TracedOutput). set now i (over t (drop (i + 1) old))) (told_read old now i d lt before)
    ∙ told_more old now i d lt before

first_here : (old now : List TracedOutput) (i : ℕ) (d : TracedOutput) (place : ℕ × ℤ) (may : Bool) → i < length old → IsTold old now (i + 1) → may_override (get_or now i d).fate ≡ may
    → cond (may && is_there (place_of (get_or now i d).event) place) (Some (get_or now i d).number) (first_at (drop (i + 1) old) place) ≡ first_at (drop i old) place
first_here old now i d place may lt before is =
    ap (λ (m : Bool). cond (m && is_there (place_of (get_or now i d).event) place) (Some (get_or now i d).number) (first_at (drop (i + 1) old) place)) (sym is)
    ∙ ap (λ (t : TracedOutput). cond (may_override t.fate && is_there (place_of t.event) place) (Some t.number) (first_at (drop (i + 1) old) place)) (told_read old now i d lt before)
    ∙ sym (first_more old i d place lt)

pub knows_more : (old now : List TracedOutput) (i : ℕ) (d : TracedOutput) (known next : ℕ × ℤ → Option ℕ) → i < length old
    → IsTold old now (i + 1) → Knows known (drop (i + 1) old) → may_override (get_or now i d).fate ≡ true
    → ((place : ℕ × ℤ) → next place ≡ cond (is_there (place_of (get_or now i d).event) place) (Some (get_or now i d).number) (known place))
    → Knows next (drop i old)
knows_more old now i d known next lt before knows may puts = λ place.
    puts place
    ∙ ap (cond (is_there (place_of (get_or now i d).event) place) (Some (get_or now i d).number)) (knows place)
    ∙ first_here old now i d place true lt before may

pub knows_same : (old now : List TracedOutput) (i : ℕ) (d : TracedOutput) (known : ℕ × ℤ → Option ℕ) → i < length old
    → IsTold old now (i + 1) → Knows known (drop (i + 1) old) → may_override (get_or now i d).fate ≡ false
    → Knows known (drop i old)
knows_same old now i d known lt before knows never = λ place. knows place ∙ first_here old now i d place false lt before never
