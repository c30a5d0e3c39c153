-- What the lines of a log make of the outputs.
use Rattle.std.proofs.Common.{◌≡◌, ◌≢◌, ℕ, ◌+◌, ◌<◌, ◌≤◌, ◌⊎◌, inl, inr, Bool, true, false, List, [], ◌∷◌, ◌++◌, refl, sym, ap, subst, ◌∙◌, length, get_or, set, take, zero, suc, cond, append-nil, arith}
use Rattle.std.specs.Prelude.{map, filter, ◌==◌, ◌||◌, if◌then◌else◌}
use Rattle.std.proofs.lemmas.Bool.{ne_eqb}
use Rattle.std.proofs.lemmas.List.{map-append, map-id, take_more}
use Rattle.std.proofs.lemmas.List.Elements.{filter-append}
use Rattle.rtio_types.specs.declared.event.Event.{Event}
use Rattle.rtio_log.specs.declared.LogLine.{LogLine}
use Rattle.output_merge.specs.Outputs.{LogLists}
use Rattle.rtio_log.specs.declared.LogKind.{LogKind}
use Rattle.rtio_log.specs.declared.LogKind.TheVariants as logged
use Rattle.rtio_log.specs.Kinds.{is_kind, lines_of}
use Rattle.trace_fates.specs.declared.data.Fate.{Fate}
use Rattle.rtio_core.specs.Told.{TellsLog}
use Rattle.trace_fates.specs.declared.data.Fate.TheVariants as fate
use Rattle.trace_fates.specs.declared.data.TracedOutput.{TracedOutput}
use Rattle.trace_fates.specs.Fates.{is_listed, is_same}
use Rattle.trace_fates.specs.Passes.{AreNumberedFrom, fate_named, is_late_fate, marked, named}

-- ---- marks one after another

-- the same with one value for all
map_same : (f g : TracedOutput → TracedOutput) (xs : List TracedOutput) → ((t : TracedOutput) → f t ≡ g t) → map f xs ≡ map g xs
map_same f g [] same = refl
map_same f g (t ∷ xs) same = ap (λ (u : TracedOutput). u ∷ map f xs) (same t) ∙ ap (λ (us : List TracedOutput). g t ∷ us) (map_same f g xs same)

map_twice : (f g h : TracedOutput → TracedOutput) (xs : List TracedOutput) → ((t : TracedOutput) → g (f t) ≡ h t) → map g (map f xs) ≡ map h xs
map_twice f g h [] same = refl
map_twice f g h (t ∷ xs) same = ap (λ (u : TracedOutput). u ∷ map g (map f xs)) (same t) ∙ ap (λ (us : List TracedOutput). h t ∷ us) (map_twice f g h xs same)

listed_append : (p : ℕ × Event) (xs ys : List (ℕ × Event)) → is_listed p (xs ++ ys) ≡ (is_listed p xs || is_listed p ys)
listed_append p [] ys = refl
listed_append p (x ∷ xs) ys = by (is_same p x) (listed_append p xs ys)
  where
    by : (b : Bool) → is_listed p (xs ++ ys) ≡ (is_listed p xs || is_listed p ys) → (b || is_listed p (xs ++ ys)) ≡ ((b || is_listed p xs) || is_listed p ys)
    by true ih = refl
    by false ih = ih

named_twice : (f old : Fate) (a b : Bool) → fate_named f (fate_named f old a) b ≡ fate_named f old (a || b)
named_twice f old a b = by (is_late_fate old) refl a
  where
    still : (l : Bool) → (if l then f else (if b then f else f)) ≡ f
    still true = refl
    still false = either b
      where
        either : (b : Bool) → (if b then f else f) ≡ f
        either true = refl
        either false = refl

    by : (l : Bool) → is_late_fate old ≡ l → (a : Bool) → fate_named f (fate_named f old a) b ≡ fate_named f old (a || b)
    by true is a = rw is (rw is refl)
    by false is true = rw is (still (is_late_fate f))
    by false is false = rw is (rw is refl)

marked_twice : (f : Fate) (xs ys : List (ℕ × Event)) (t : TracedOutput) → marked f ys (marked f xs t) ≡ marked f (xs ++ ys) t
marked_twice f xs ys t =
    ap (λ (f : Fate). record t { fate = f }) (named_twice f t.fate (is_listed (t.number, t.event) xs) (is_listed (t.number, t.event) ys))
    ∙ ap (λ (b : Bool). record t { fate = fate_named f t.fate b }) (sym (listed_append (t.number, t.event) xs ys))

unnamed : (f old : Fate) → fate_named f old false ≡ old
unnamed f old = by (is_late_fate old)
  where
    by : (l : Bool) → (if l then old else old) ≡ old
    by true = refl
    by false = refl

pub marked_none : (f : Fate) (xs : List TracedOutput) → map (marked f []) xs ≡ xs
marked_none f xs = map_same (marked f []) (λ (t : TracedOutput). t) xs (λ t. ap (λ (f : Fate). record t { fate = f }) (unnamed f t.fate)) ∙ map-id xs

-- ---- the lines of a kind

lines_push : (kind : LogKind) (front : List LogLine) (line : LogLine) → is_kind kind line.kind ≡ true → lines_of kind (front ++ line ∷ []) ≡ lines_of kind front ++ (line.number, line.event) ∷ []
lines_push kind front line same =
    ap (map own) (filter-append (λ (l : LogLine). is_kind kind l.kind) front (line ∷ []))
    ∙ map-append own (filter (λ (l : LogLine). is_kind kind l.kind) front) (filter (λ (l : LogLine). is_kind kind l.kind) (line ∷ []))
    ∙ ap (λ (b : Bool). lines_of kind front ++ map own (cond b (line ∷ []) [])) same
  where
    own : LogLine → ℕ × Event
    own l = (l.number, l.event)

lines_skip : (kind : LogKind) (front : List LogLine) (line : LogLine) → is_kind kind line.kind ≡ false → lines_of kind (front ++ line ∷ []) ≡ lines_of kind front
lines_skip kind front line other =
    ap (map own) (filter-append (λ (l : LogLine). is_kind kind l.kind) front (line ∷ []))
    ∙ map-append own (filter (λ (l : LogLine). is_kind kind l.kind) front) (filter (λ (l : LogLine). is_kind kind l.kind) (line ∷ []))
    ∙ ap (λ (b : Bool). lines_of kind front ++ map own (cond b (line ∷ []) [])) other
    ∙ append-nil (lines_of kind front)
  where
    own : LogLine → ℕ × Event
    own l = (l.number, l.event)

pub marked_more : (f : Fate) (kind : LogKind) (log : List LogLine) (i : ℕ) (d : LogLine) (xs now next : List TracedOutput) → i < length log
    → is_kind kind (get_or log i d).kind ≡ true
    → now ≡ map (marked f (lines_of kind (take i log))) xs
    → next ≡ map (marked f (((get_or log i d).number, (get_or log i d).event) ∷ [])) now
    → next ≡ map (marked f (lines_of kind (take (i + 1) log))) xs
marked_more f kind log i d xs now next lt same now_is next_is =
    let line = get_or log i d in
    next_is
    ∙ ap (map (marked f ((line.number, line.event) ∷ []))) now_is
    ∙ map_twice (marked f (lines_of kind (take i log))) (marked f ((line.number, line.event) ∷ [])) (marked f (lines_of kind (take i log) ++ (line.number, line.event) ∷ [])) xs
    (λ t. marked_twice f (lines_of kind (take i log)) ((line.number, line.event) ∷ []) t)
    ∙ ap (λ (ps : List (ℕ × Event)). map (marked f ps) xs) (sym (ap (lines_of kind) (take_more log i d lt) ∙ lines_push kind (take i log) line same))

pub marked_skip : (f : Fate) (kind : LogKind) (log : List LogLine) (i : ℕ) (d : LogLine) (xs now : List TracedOutput) → i < length log
    → is_kind kind (get_or log i d).kind ≡ false
    → now ≡ map (marked f (lines_of kind (take i log))) xs
    → now ≡ map (marked f (lines_of kind (take (i + 1) log))) xs
marked_skip f kind log i d xs now lt other now_is =
    now_is ∙ ap (λ (ps : List (ℕ × Event)). map (marked f ps) xs) (sym (ap (lines_of kind) (take_more log i d lt) ∙ lines_skip kind (take i log) (get_or log i d) other))

-- ---- numbers stay

pub numbered_marked : (f : Fate) (ps : List (ℕ × Event)) (first : ℕ) (xs : List TracedOutput) → AreNumberedFrom first xs → AreNumberedFrom first (map (marked f ps) xs)
numbered_marked f ps first [] h = h
numbered_marked f ps first (t ∷ xs) h = (h.0, numbered_marked f ps (first + 1) xs h.1)

-- ---- one line marks the output at its number

other_number : (f : Fate) (q : ℕ × Event) (t : TracedOutput) → t.number ≢ q.0 → marked f (q ∷ []) t ≡ t
other_number f q t apart =
    let no : (t.number == q.0) ≡ false = ne_eqb t.number q.0 apart in
    ap (λ (f : Fate). record t { fate = f }) (rw no (unnamed f t.fate))

pub others_stay : (f : Fate) (q : ℕ × Event) (first : ℕ) (xs : List TracedOutput) → AreNumberedFrom first xs → (q.0 < first) ⊎ (first + length xs ≤ q.0) → map (marked f (q ∷ [])) xs ≡ xs
others_stay f q first [] h out = refl
others_stay f q first (t ∷ xs) h out =
    ap (λ (u : TracedOutput). u ∷ map (marked f (q ∷ [])) xs) (other_number f q t (λ same. by out same))
    ∙ ap (λ (us : List TracedOutput). t ∷ us) (others_stay f q (first + 1) xs h.1 (further out))
  where
    by : (q.0 < first) ⊎ (first + length (t ∷ xs) ≤ q.0) → t.number ≡ q.0 → ⊥
    by (inl low) same = omega (arith, low, same, h.0)
    by (inr high) same = omega (arith, high, same, h.0)

    further : (q.0 < first) ⊎ (first + length (t ∷ xs) ≤ q.0) → (q.0 < first + 1) ⊎ (first + 1 + length xs ≤ q.0)
    further (inl low) = inl (omega (arith, low))
    further (inr high) = inr (omega (arith, high))

pub mark_one : (f : Fate) (q : ℕ × Event) (first i : ℕ) (d : TracedOutput) (xs : List TracedOutput) → AreNumberedFrom first xs → q.0 ≡ first + i → i < length xs
    → set xs i (marked f (q ∷ []) (get_or xs i d)) ≡ map (marked f (q ∷ [])) xs
mark_one f q first i d [] h at lt = absurd (omega (arith, lt))
mark_one f q first zero d (t ∷ xs) h at lt =
    ap (λ (us : List TracedOutput). marked f (q ∷ []) t ∷ us) (sym (others_stay f q (first + 1) xs h.1 (inl (omega (arith, at)))))
mark_one f q first (suc i) d (t ∷ xs) h at lt =
    ap (λ (us : List TracedOutput). t ∷ us) (mark_one f q (first + 1) i d xs h.1 (omega (arith, at)) (omega (arith, lt)))
    ∙ ap (λ (u : TracedOutput). u ∷ map (marked f (q ∷ [])) xs) (sym (other_number f q t (λ same. omega (arith, same, h.0, at))))

-- so where it is written there
pub marked_there : (f : Fate) (q : ℕ × Event) (d t : TracedOutput) (xs : List TracedOutput) → AreNumberedFrom 0 xs → q.0 < length xs → t ≡ marked f (q ∷ []) (get_or xs q.0 d)
    → (set xs q.0 t ≡ map (marked f (q ∷ [])) xs) × AreNumberedFrom 0 (set xs q.0 t)
marked_there f q d t xs numbers lt is = (same, subst (AreNumberedFrom 0) (sym same) (numbered_marked f (q ∷ []) 0 xs numbers))
  where
    same : set xs q.0 t ≡ map (marked f (q ∷ [])) xs
    same = ap (set xs q.0) is ∙ mark_one f q 0 q.0 d xs numbers (omega arith) lt

-- ---- the four kinds

abbrev four : (sequence cleared collided busy : List (ℕ × Event)) → TracedOutput → TracedOutput
four s c k b t = marked fate.Sequence s (marked fate.Cleared c (marked fate.Collided k (marked fate.Busy b t)))

four_all : (s c k b : List (ℕ × Event)) (xs : List TracedOutput)
    → map (marked fate.Sequence s) (map (marked fate.Cleared c) (map (marked fate.Collided k) (map (marked fate.Busy b) xs))) ≡ map (four s c k b) xs
four_all s c k b [] = refl
four_all s c k b (t ∷ xs) = ap (λ (us : List TracedOutput). four s c k b t ∷ us) (four_all s c k b xs)

pub four_marks : (log : List LogLine) (lists : LogLists) (xs x1 x2 x3 x4 : List TracedOutput) → TellsLog lists log
    → x1 ≡ map (marked fate.Busy (lines_of logged.Busy log)) xs
    → x2 ≡ map (marked fate.Collided (lines_of logged.Collision log)) x1
    → x3 ≡ map (marked fate.Cleared (lines_of logged.Cleared log)) x2
    → x4 ≡ map (marked fate.Sequence (lines_of logged.Sequence log)) x3
    → x4 ≡ map (named lists) xs
four_marks log lists xs x1 x2 x3 x4 tells e1 e2 e3 e4 =
    e4
    ∙ ap (map (marked fate.Sequence (lines_of logged.Sequence log))) (e3 ∙ ap (map (marked fate.Cleared (lines_of logged.Cleared log))) (e2 ∙ ap (map (marked fate.Collided (lines_of logged.Collision log))) e1))
    ∙ four_all (lines_of logged.Sequence log) (lines_of logged.Cleared log) (lines_of logged.Collision log) (lines_of logged.Busy log) xs
    ∙ ap (λ (ps : List (ℕ × Event)). map (four ps (lines_of logged.Cleared log) (lines_of logged.Collision log) (lines_of logged.Busy log)) xs) tells.sequence
    ∙ ap (λ (ps : List (ℕ × Event)). map (four lists.sequence ps (lines_of logged.Collision log) (lines_of logged.Busy log)) xs) tells.cleared
    ∙ ap (λ (ps : List (ℕ × Event)). map (four lists.sequence lists.cleared ps (lines_of logged.Busy log)) xs) tells.collided
    ∙ ap (λ (ps : List (ℕ × Event)). map (four lists.sequence lists.cleared lists.collided ps) xs) tells.busy
