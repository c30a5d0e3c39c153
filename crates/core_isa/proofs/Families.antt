-- The families of instructions, each of which keeps a state sound.
use Rattle.std.proofs.Common.{◌≡◌, ℕ, suc, zero, ◌+◌, ◌<◌, ◌≤◌, List, [], ◌∷◌, length, take, drop, replicate, Bool, true, false, Option, Some, None, refl, sym, ap, subst, arith, length-append, length-drop, length-set}
use Rattle.std.specs.Prelude.{ℤ, pos, negsuc, slice_get, slice_set, nat_lt, if◌then◌else◌}
use Rattle.std.proofs.lemmas.List.{length-take, length-replicate}
use Rattle.std.proofs.lemmas.Bool.{ltb-true, le-leb}
use Rattle.rtio_types.specs.declared.outcome.Exc.{Exc}
use Rattle.rtio_types.specs.declared.outcome.Exc.TheVariants.{IndexError}
use Rattle.rtio_types.specs.Integers.{is_true}
use Rattle.core_isa.specs.declared.code.Code.{Code}
use Rattle.core_isa.specs.declared.code.CodeFunction.{CodeFunction}
use Rattle.core_isa.specs.Machine.{HandlerPoint, Frame, OpenRecording, Machine, Next, goes, with_operands, with_slots, at_place, next, push}
use Rattle.core_isa.specs.Sound.{StandsAt, StaysSound}
use Rattle.core_isa.specs.Steps.{on_one, on_two, on_some, push_or_raise, array_at, with_array, index_in, store_slot, index_or_raise, load_at, store_at, jump_if_zero}
use Rattle.core_isa.proofs.Ready.{Ready, IsReady, goes_sound, next_sound, push_sound}
use Rattle.core_isa.proofs.Raises.{raise_sound}
use Rattle.core_isa.proofs.Passing.{Passes, PassesIn, first_sound, two_sound, some_sound}

-- nothing is left upon the other operands
pub stands_bare : (code : Code) (index rec place height tries taken others : ℕ)
    → Passes code index rec place height tries taken 0
    → others + taken ≡ height
    → StandsAt code index (place + 1) others tries rec
stands_bare code index rec place height tries taken others passes all =
    subst (λ h. StandsAt code index (place + 1) h tries rec) (let same : others + 0 ≡ others = omega arith in same) (passes.onward others all)

-- an element that is there
pub found_at : {A : Type 0} (xs : List A) (k : ℕ) → k < length xs → (a : A) × (slice_get xs k ≡ Some a)
found_at [] k within = absurd (omega arith)
found_at (x ∷ xs) zero within = (x, refl)
found_at (x ∷ xs) (suc k) within = found_at xs k (omega arith)

-- other slots, as many as before
pub ready_slots : (code : Code) (index rec : ℕ) (recording : Option OpenRecording) (callers : List Frame) (f : CodeFunction) (slots now : ℕ) (handlers : List HandlerPoint)
    → slots ≡ now
    → Ready code index rec recording callers f slots handlers
    → Ready code index rec recording callers f now handlers
ready_slots code index rec recording callers f slots now handlers same ready =
    subst (λ n. Ready code index rec recording callers f n handlers) same ready

-- a value is pushed upon all operands
pub pushes : (code : Code) (index rec : ℕ) (v : ℤ) (m : Machine) → IsReady code index rec m → PassesIn code index rec m 0 1 → StaysSound code (push v m)
pushes code index rec v m ready passes =
    push_sound code index rec v m ready (passes.onward (length m.top.operands) (omega arith))

-- an operand becomes another
pub one_to_one : (code : Code) (index rec : ℕ) (f : ℤ → ℤ) (m : Machine) → IsReady code index rec m → PassesIn code index rec m 1 1 → StaysSound code (on_one m (λ a. push (f a)))
one_to_one code index rec f m ready passes =
    first_sound
    code
    m.top.operands
    (λ a. push (f a))
    m
    passes.enough
    (λ a rest all. push_sound code index rec (f a) (with_operands m rest) ready (passes.onward (length rest) all))

-- two operands become one
pub two_to_one : (code : Code) (index rec : ℕ) (f : ℤ → ℤ → ℤ) (m : Machine) → IsReady code index rec m → PassesIn code index rec m 2 1 → StaysSound code (on_two m (λ a b. push (f a b)))
two_to_one code index rec f m ready passes =
    two_sound
    code
    (λ a b. push (f a b))
    m
    passes.enough
    (λ a b rest all. push_sound code index rec (f a b) (with_operands m rest) ready (passes.onward (length rest) all))

-- or raise
pub two_to_some : (code : Code) (index rec : ℕ) (x : Exc) (f : ℤ → ℤ → Option ℤ) (m : Machine) → IsReady code index rec m → PassesIn code index rec m 2 1 → StaysSound code (on_two m (λ a b. push_or_raise x (f a b)))
two_to_some code index rec x f m ready passes =
    two_sound
    code
    (λ a b. push_or_raise x (f a b))
    m
    passes.enough
    (λ a b rest all. by_result (f a b) rest all)
  where
    by_result : (o : Option ℤ) (rest : List ℤ) → length rest + 2 ≡ length m.top.operands → StaysSound code (push_or_raise x o (with_operands m rest))
    by_result None rest all = raise_sound code index rec x (with_operands m rest) ready
    by_result (Some v) rest all =
        push_sound code index rec v (with_operands m rest) ready (passes.onward (length rest) all)

-- an operand goes
pub one_to_none : (code : Code) (index rec : ℕ) (go : ℤ → Machine → Next) (m : Machine)
    → PassesIn code index rec m 1 0
    → ((a : ℤ) (rest : List ℤ) → StandsAt code index (m.top.place + 1) (length rest) (length m.top.handlers) rec → StaysSound code (go a (with_operands m rest)))
    → StaysSound code (on_one m go)
one_to_none code index rec go m passes on =
    first_sound
    code
    m.top.operands
    go
    m
    passes.enough
    (λ a rest all.
    on a rest (stands_bare code index rec m.top.place (length m.top.operands) (length m.top.handlers) 1 (length rest) passes all))

-- two go
pub two_to_none : (code : Code) (index rec : ℕ) (go : ℤ → ℤ → Machine → Next) (m : Machine)
    → PassesIn code index rec m 2 0
    → ((a b : ℤ) (rest : List ℤ) → StandsAt code index (m.top.place + 1) (length rest) (length m.top.handlers) rec → StaysSound code (go a b (with_operands m rest)))
    → StaysSound code (on_two m go)
two_to_none code index rec go m passes on =
    two_sound
    code
    go
    m
    passes.enough
    (λ a b rest all.
    on a b rest (stands_bare code index rec m.top.place (length m.top.operands) (length m.top.handlers) 2 (length rest) passes all))

-- nothing goes and nothing comes
pub stands_same : (code : Code) (index rec : ℕ) (m : Machine) → PassesIn code index rec m 0 0 → StandsAt code index (m.top.place + 1) (length m.top.operands) (length m.top.handlers) rec
stands_same code index rec m passes =
    stands_bare
    code
    index
    rec
    m.top.place
    (length m.top.operands)
    (length m.top.handlers)
    0
    (length m.top.operands)
    passes
    (omega arith)

-- a slot is written
pub store_sound : (code : Code) (index rec s : ℕ) (v : ℤ) (m : Machine)
    → IsReady code index rec m
    → s < length m.top.slots
    → StandsAt code index (m.top.place + 1) (length m.top.operands) (length m.top.handlers) rec
    → StaysSound code (store_slot s v m)
store_sound code index rec s v m ready within stands =
    let there = found_at m.top.slots s within in
    some_sound
    code
    (slice_get m.top.slots s)
    there.0
    (λ old. next (with_slots m (slice_set m.top.slots s v)))
    there.1
    (next_sound
    code
    index
    rec
    (with_slots m (slice_set m.top.slots s v))
    (ready_slots code index rec m.recording m.callers m.top.function (length m.top.slots) (length (slice_set m.top.slots s v)) m.top.handlers (sym (length-set m.top.slots s v)) ready)
    stands)

-- an index is within the length, or raises
pub index_sound : (code : Code) (index rec n : ℕ) (i : ℤ) (go : ℕ → Next) (m : Machine)
    → IsReady code index rec m
    → ((k : ℕ) → k < n → StaysSound code (go k))
    → StaysSound code (index_or_raise (index_in n i) go m)
index_sound code index rec n (negsuc i) go m ready on = raise_sound code index rec IndexError m ready
index_sound code index rec n (pos i) go m ready on = by_test (nat_lt i n) refl
  where
    by_test : (b : Bool) → nat_lt i n ≡ b → StaysSound code (index_or_raise (if b then Some i else None) go m)
    by_test true lt = on i (ltb-true i n lt)
    by_test false lt = raise_sound code index rec IndexError m ready

-- an element of an array is read
pub load_at_sound : (code : Code) (index rec s n : ℕ) (i : ℤ) (m : Machine)
    → IsReady code index rec m
    → s + n ≤ length m.top.slots
    → StandsAt code index (m.top.place + 1) (length m.top.operands + 1) (length m.top.handlers) rec
    → StaysSound code (load_at s n i m)
load_at_sound code index rec s n i m ready within stands =
    index_sound
    code
    index
    rec
    n
    i
    (λ k. on_some (slice_get m.top.slots (s + k)) (λ v. push v m))
    m
    ready
    (λ k lt.
    let there = found_at m.top.slots (s + k) (omega arith) in
    some_sound
    code
    (slice_get m.top.slots (s + k))
    there.0
    (λ v. push v m)
    there.1
    (push_sound code index rec there.0 m ready stands))

-- an element of an array is written
pub store_at_sound : (code : Code) (index rec s n : ℕ) (v i : ℤ) (m : Machine)
    → IsReady code index rec m
    → s + n ≤ length m.top.slots
    → StandsAt code index (m.top.place + 1) (length m.top.operands) (length m.top.handlers) rec
    → StaysSound code (store_at s n v i m)
store_at_sound code index rec s n v i m ready within stands =
    index_sound
    code
    index
    rec
    n
    i
    (λ k. store_slot (s + k) v m)
    m
    ready
    (λ k lt. store_sound code index rec (s + k) v m ready (omega arith) stands)

-- the slots of an array are there
pub array_there : (slots : List ℤ) (s n : ℕ) → s + n ≤ length slots → array_at slots s n ≡ Some (take n (drop s slots))
array_there slots s n within =
    ap (λ b. if b then Some (take n (drop s slots)) else None) (le-leb (s + n) (length slots) within)

-- an array is written as a whole
length-with_array : (slots : List ℤ) (s n : ℕ) (v : ℤ) → s + n ≤ length slots → length slots ≡ length (with_array slots s (replicate n v))
length-with_array slots s n v within = simp (length-append, length-take, length-replicate, length-drop) (omega arith)

pub fill_sound : (code : Code) (index rec s n : ℕ) (v : ℤ) (m : Machine)
    → IsReady code index rec m
    → s + n ≤ length m.top.slots
    → StandsAt code index (m.top.place + 1) (length m.top.operands) (length m.top.handlers) rec
    → StaysSound code (on_some (array_at m.top.slots s n) (λ old. next (with_slots m (with_array m.top.slots s (replicate n v)))))
fill_sound code index rec s n v m ready within stands =
    some_sound
    code
    (array_at m.top.slots s n)
    (take n (drop s m.top.slots))
    (λ old. next (with_slots m (with_array m.top.slots s (replicate n v))))
    (array_there m.top.slots s n within)
    (next_sound
    code
    index
    rec
    (with_slots m (with_array m.top.slots s (replicate n v)))
    (ready_slots
    code
    index
    rec
    m.recording
    m.callers
    m.top.function
    (length m.top.slots)
    (length (with_array m.top.slots s (replicate n v)))
    m.top.handlers
    (length-with_array m.top.slots s n v within)
    ready)
    stands)

-- a jump where an operand is 0
pub jump_sound : (code : Code) (index rec p : ℕ) (c : ℤ) (m : Machine)
    → IsReady code index rec m
    → StandsAt code index (m.top.place + 1) (length m.top.operands) (length m.top.handlers) rec
    → StandsAt code index p (length m.top.operands) (length m.top.handlers) rec
    → StaysSound code (jump_if_zero p c m)
jump_sound code index rec p c m ready stands there = by_test (is_true c)
  where
    by_test : (b : Bool) → StaysSound code (if b then next m else goes (at_place m p))
    by_test true = next_sound code index rec m ready stands
    by_test false = goes_sound code index rec (at_place m p) ready there
