-- The claim that the marks of a part of a function's code are right, and how such claims are put together.
use Rattle.std.proofs.Common.{◌≡◌, ℕ, zero, suc, ◌+◌, ◌<◌, ◌≤◌, List, [], ◌∷◌, ◌++◌, length, slice_get, Some, refl, sym, ◌∙◌, ap, subst, arith}
use Rattle.std.specs.Prelude.{Bool, true, false, nat_lt, is_some, option_map}
use Rattle.std.proofs.lemmas.Bool.{false≢true}
use Rattle.core_isa.specs.declared.code.Code.{Code}
use Rattle.core_isa.specs.declared.code.CodeFunction.{CodeFunction}
use Rattle.core_isa.specs.declared.code.CodeLine.{CodeLine}
use Rattle.core_isa.specs.declared.code.Mark.{Mark}
use Rattle.core_isa.specs.declared.instr.Instr.{Instr}
use Rattle.core_isa.specs.Marks.{function_index, mark_at, OperandsExist, LiveIsAllowed, MarksFollow}
use Rattle.code_forms.specs.Lines.{line, straight, mark_after}

-- a place of the function has this mark
pub record HasMark (code : Code) (k place : ℕ) (mark : Mark) : Type 0 where
  pub same : function_index code place ≡ k
  pub marked : mark_at code place ≡ Some mark

-- the instruction at a place of the function meets the conditions; what is asked of the function's first mark is left out
pub record IsFit (code : Code) (k : ℕ) (f : CodeFunction) (place : ℕ) : Type 0 where
  pub line : CodeLine
  pub stands : slice_get code.lines place ≡ Some line
  pub same : function_index code place ≡ k
  pub exist : OperandsExist code f line.instr
  pub live : LiveIsAllowed f line.mark line.instr
  pub follow : MarksFollow code f place line.mark line.instr

-- that holds at all places from one up to another
abbrev pub AreFit : Code → ℕ → CodeFunction → (from to : ℕ) → Type 0
AreFit code k f from to = (place : ℕ) → from ≤ place → place < to → IsFit code k f place

-- these lines stand in others from a place on, at places that meet a condition
abbrev pub StandWhere : List CodeLine → (ℕ → Type 0) → ℕ → List CodeLine → Type 0
StandWhere lines P place [] = Unit {0}
StandWhere lines P place (l ∷ rest) =
    (slice_get lines place ≡ Some l) × P place × StandWhere lines P (place + 1) rest

-- these lines of the function stand in the code from a place on
abbrev pub StandIn : Code → ℕ → ℕ → List CodeLine → Type 0
StandIn code k place ls = StandWhere code.lines (λ p. function_index code p ≡ k) place ls

-- a part of the function is marked rightly: where one mark stands behind it, another stands at its first place, and its
-- instructions meet the conditions
abbrev pub Part : Code → ℕ → CodeFunction → (from to : ℕ) → (begin end : Mark) → Type 0
Part code k f from to begin end = HasMark code k to end → HasMark code k from begin × AreFit code k f from to

-- an instruction meets the conditions under a mark, where another mark stands behind it
pub record Allowed (code : Code) (k : ℕ) (f : CodeFunction) (place : ℕ) (mark next : Mark) (i : Instr) : Type 0 where
  pub exist : OperandsExist code f i
  pub live : LiveIsAllowed f mark i
  pub follow : HasMark code k (place + 1) next → function_index code place ≡ k → MarksFollow code f place mark i

-- so do instructions one after another
abbrev pub AllAllowed : Code → ℕ → CodeFunction → (place : ℕ) → Mark → List Instr → Type 0
AllAllowed code k f place mark [] = Unit {0}
AllAllowed code k f place mark (i ∷ rest) =
    Allowed code k f place mark (mark_after mark i) i × AllAllowed code k f (place + 1) (mark_after mark i) rest

-- the mark behind instructions one after another
abbrev pub marks_after : Mark → List Instr → Mark
marks_after mark [] = mark
marks_after mark (i ∷ rest) = marks_after (mark_after mark i) rest

-- instructions one after another meet the conditions, and this is the mark behind them
abbrev pub Gives : Code → ℕ → CodeFunction → (place : ℕ) → (mark : Mark) → List Instr → (next : Mark) → Type 0
Gives code k f place mark is next = AllAllowed code k f place mark is × (marks_after mark is ≡ next)

pub same_mark : (a b : Mark) → a.height ≡ b.height → a.tries ≡ b.tries → a.rec ≡ b.rec → a ≡ b
same_mark a b h t r =
    ap (λ n. record { height = n; tries = a.tries; rec = a.rec }) h
    ∙ ap (λ n. record { height = b.height; tries = n; rec = a.rec }) t
    ∙ ap (λ n. record { height = b.height; tries = b.tries; rec = n }) r

module _ (lines : List CodeLine) (P : ℕ → Type 0) where
  pub front_lines : (place : ℕ) (a b : List CodeLine) → StandWhere lines P place (a ++ b) → StandWhere lines P place a
  front_lines place [] b s = tt
  front_lines place (l ∷ a) b s = (s.0, s.1, front_lines (place + 1) a b s.2)

  pub back_lines : (place n : ℕ) (a b : List CodeLine) → length a ≡ n → StandWhere lines P place (a ++ b) → StandWhere lines P (place + n) b
  back_lines place n [] b e s =
      let here : place ≡ place + n = omega (arith, e) in
      subst (λ p. StandWhere lines P p b) here s
  back_lines place n (l ∷ a) b e s =
      let there : place + 1 + length a ≡ place + n = omega (arith, e) in
      subst (λ p. StandWhere lines P p b) there (back_lines (place + 1) (length a) a b refl s.2)

module _ (code : Code) (k : ℕ) where
  pub first_lines : (place : ℕ) (a b : List CodeLine) → StandIn code k place (a ++ b) → StandIn code k place a
  first_lines place a b s = front_lines code.lines (λ p. function_index code p ≡ k) place a b s

  pub second_lines : (place n : ℕ) (a b : List CodeLine) → length a ≡ n → StandIn code k place (a ++ b) → StandIn code k (place + n) b
  second_lines place n a b e s = back_lines code.lines (λ p. function_index code p ≡ k) place n a b e s

  pub stand_as : {place place' : ℕ} (ls : List CodeLine) → place ≡ place' → StandIn code k place ls → StandIn code k place' ls
  stand_as {place} {place'} ls e s = subst (λ p. StandIn code k p ls) e s

  -- a line among those that stand
  pub stands_at : (place : ℕ) (ls : List CodeLine) (n : ℕ) (l : CodeLine) → StandIn code k place ls → slice_get ls n ≡ Some l → (slice_get code.lines (place + n) ≡ Some l) × (function_index code (place + n) ≡ k)
  stands_at place [] n l s e = absurd (false≢true (ap is_some e))
  stands_at place (m ∷ ls) zero l s e =
      let here : place ≡ place + zero = omega arith in
      (subst (λ p. slice_get code.lines p ≡ Some l) here (s.0 ∙ e), subst (λ p. function_index code p ≡ k) here s.1)
  stands_at place (m ∷ ls) (suc n) l s e =
      let here : place + 1 + n ≡ place + suc n = omega arith in
      let r = stands_at (place + 1) ls n l s.2 e in
      (subst (λ p. slice_get code.lines p ≡ Some l) here r.0, subst (λ p. function_index code p ≡ k) here r.1)

  -- its mark
  pub mark_there : (place : ℕ) (ls : List CodeLine) (n : ℕ) (l : CodeLine) → StandIn code k place ls → slice_get ls n ≡ Some l → HasMark code k (place + n) l.mark
  mark_there place ls n l s e = let r = stands_at place ls n l s e in record { same = r.1; marked = ap (option_map (λ l. l.mark)) r.0 }

  pub has_as : {place place' : ℕ} {mark mark' : Mark} → place ≡ place' → mark ≡ mark' → HasMark code k place mark → HasMark code k place' mark'
  has_as {place} {place'} {mark} {mark'} p m has = subst (HasMark code k place') m (subst (λ q. HasMark code k q mark) p has)

  -- a line that stands has its mark
  pub mark_of : (place : ℕ) (mark : Mark) (i : Instr) → slice_get code.lines place ≡ Some (line mark i) → function_index code place ≡ k → HasMark code k place mark
  mark_of place mark i e same = record { same = same; marked = ap (option_map (λ l. l.mark)) e }

  module _ (f : CodeFunction) where
    pub nothing : (place : ℕ) (mark : Mark) → Part code k f place place mark mark
    nothing place mark has = (has, λ p l m. absurd (omega (arith, l, m)))

    pub both_fit : (a b c : ℕ) → AreFit code k f a b → AreFit code k f b c → AreFit code k f a c
    both_fit a b c x y p l m = by_test (nat_lt p b) refl
      where
        by_test : (t : Bool) → nat_lt p b ≡ t → IsFit code k f p
        by_test true e = let less : p < b = grind (arith, e) in x p l less
        by_test false e = let more : b ≤ p = grind (arith, e) in y p more m

    -- a part and another one behind it
    pub followed : {a b b' c : ℕ} {m n n' o : Mark} → b ≡ b' → n ≡ n' → Part code k f a b m n → Part code k f b' c n' o → Part code k f a c m o
    followed {a} {b} {b'} {c} {m} {n} {n'} {o} place mark x y has =
        let second = y has in
        let here = subst (λ p. HasMark code k p n) (sym place) (subst (HasMark code k b') (sym mark) second.0) in
        let first = x here in
        (first.0, both_fit a b c first.1 (subst (λ p. AreFit code k f p c) (sym place) second.1))

    pub part_to : {a b b' : ℕ} {m n n' : Mark} → b ≡ b' → n ≡ n' → Part code k f a b m n → Part code k f a b' m n'
    part_to {a} {b} {b'} {m} {n} {n'} place mark x = subst (λ p. Part code k f a p m n') place (subst (Part code k f a b m) mark x)

    pub part_from : {a a' b : ℕ} {m m' n : Mark} → a ≡ a' → m ≡ m' → Part code k f a b m n → Part code k f a' b m' n
    part_from {a} {a'} {b} {m} {m'} {n} place mark x = subst (λ p. Part code k f p b m' n) place (subst (λ l. Part code k f a b l n) mark x)

    pub fit_alone : (place : ℕ) → IsFit code k f place → AreFit code k f place (place + 1)
    fit_alone place fit p l m = let here : place ≡ p = omega (arith, l, m) in subst (IsFit code k f) here fit

    -- one instruction
    pub one_part : (place : ℕ) (mark next : Mark) (i : Instr) → slice_get code.lines place ≡ Some (line mark i) → function_index code place ≡ k → Allowed code k f place mark next i → Part code k f place (place + 1) mark next
    one_part place mark next i e same ok has =
        let fit : IsFit code k f place = record { line = line mark i; stands = e; same = same; exist = ok.exist; live = ok.live; follow = ok.follow has same } in
        (mark_of place mark i e same, fit_alone place fit)

    -- instructions one after another
    pub straight_part : (place : ℕ) (mark : Mark) (is : List Instr) → StandIn code k place (straight mark is) → AllAllowed code k f place mark is → Part code k f place (place + length is) mark (marks_after mark is)
    straight_part place mark [] s ok = part_to (omega arith) refl (nothing place mark)
    straight_part place mark (i ∷ rest) s ok =
        part_to (omega arith) refl (followed refl refl (one_part place mark (mark_after mark i) i s.0 s.1 ok.0) (straight_part (place + 1) (mark_after mark i) rest s.2 ok.1))

    pub straight_to : (place : ℕ) (mark next : Mark) (is : List Instr) → StandIn code k place (straight mark is) → Gives code k f place mark is next → Part code k f place (place + length is) mark next
    straight_to place mark next is s g = part_to refl g.1 (straight_part place mark is s g.0)

    -- instructions one after another, the last of which goes elsewhere
    pub ends_part : (place : ℕ) (mark next : Mark) (is : List Instr) (i : Instr) → StandIn code k place (straight mark (is ++ i ∷ [])) → AllAllowed code k f place mark is → Allowed code k f (place + length is) (marks_after mark is) next i → Part code k f place (place + length is + 1) mark next
    ends_part place mark next [] i s all ok =
        let here : place + 0 ≡ place = omega arith in
        part_to (omega arith) refl (one_part place mark next i s.0 s.1 (subst (λ p. Allowed code k f p mark next i) here ok))
    ends_part place mark next (j ∷ rest) i s all ok =
        let here : place + length (j ∷ rest) ≡ place + 1 + length rest = omega arith in
        let ok' = subst (λ p. Allowed code k f p (marks_after mark (j ∷ rest)) next i) here ok in
        part_to (omega arith) refl (followed refl refl (one_part place mark (mark_after mark j) j s.0 s.1 all.0) (ends_part (place + 1) (mark_after mark j) next rest i s.2 all.1 ok'))

    -- instructions behind others
    pub gives_then : (place : ℕ) (mark next last : Mark) (a b : List Instr) → Gives code k f place mark a next → Gives code k f (place + length a) next b last → Gives code k f place mark (a ++ b) last
    gives_then place mark next last [] b g h =
        let here : place + 0 ≡ place = omega arith in
        subst (λ m. Gives code k f place m b last) (sym g.1) (subst (λ p. Gives code k f p next b last) here h)
    gives_then place mark next last (i ∷ a) b g h =
        let here : place + length (i ∷ a) ≡ place + 1 + length a = omega arith in
        let r = gives_then (place + 1) (mark_after mark i) next last a b (g.0.1, g.1) (subst (λ p. Gives code k f p next b last) here h) in
        ((g.0.0, r.0), r.1)

    -- the code of a part and of another one behind it
    pub in_turn : {place n p end : ℕ} {m o q : Mark} (a b : List CodeLine) → length a ≡ n → place + n ≡ p → (StandIn code k place a → Part code k f place p m o) → (StandIn code k p b → Part code k f p end o q) → StandIn code k place (a ++ b) → Part code k f place end m q
    in_turn {place} {n} a b long there first second s =
        followed refl refl (first (first_lines place a b s)) (second (stand_as b there (second_lines place n a b long s)))

    -- an instruction and a part behind it
    pub in_front : {place end : ℕ} {next q : Mark} (mark : Mark) (i : Instr) (b : List CodeLine) → Allowed code k f place mark next i → (StandIn code k (place + 1) b → Part code k f (place + 1) end next q) → StandIn code k place (line mark i ∷ b) → Part code k f place end mark q
    in_front {place} {end} {next} mark i b ok rest s = followed refl refl (one_part place mark next i s.0 s.1 ok) (rest s.2)
