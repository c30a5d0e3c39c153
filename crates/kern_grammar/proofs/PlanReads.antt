-- A plan takes exactly the phrases that it spells, or stops at the first fault.
use Rattle.std.proofs.Common.{◌≡◌, List, [], ◌∷◌, ◌++◌, refl, sym, ◌∙◌, ap, subst, inl, inr, append_assoc}
use Rattle.std.specs.Prelude.{Option, Some, None, Ok, Err}
use Rattle.kern_lexer.specs.Symbols.{Symbol, Lexeme}
use Rattle.kern_grammar.specs.Plans.{Taken, Taker, ◌>>=◌, Plan, done, token, peek, part, last, run, Spells}
use Rattle.kern_grammar.specs.Reading.{choose}
use Rattle.kern_grammar.proofs.Taking.{SameFirst, FoundBy, FaultOf, Somewhere, Takes, bind_ok, bind_err, then_ok, ok_same, err_same, tells, Ready, plan-some, plan-complete}

-- the token that a look saw is the phrase's first
seen : {A : Type 0} (next : Lexeme → Plan A) (t : Lexeme) (ts : List Lexeme) (b : A) (front rest : List Lexeme) → (Spells (next t) b [] → ⊥) → t ∷ ts ≡ front ++ rest → Spells (next t) b front → Spells (peek next) b front
seen next t ts b [] rest none e h = absurd (none h)
seen next t ts b (u ∷ us) rest none e h = let same : t ≡ u = cc in subst (λ v. Spells (next v) b (u ∷ us)) same h

-- a token before what was found
token_found : {A V : Type 0} (stop : A → List Lexeme → Type 0) (view : Symbol → Option V) (next : V → Plan A) (t : Lexeme) (ts : List Lexeme) (v : V) (b : A) (rest : List Lexeme) → view t.symbol ≡ Some v → FoundBy (Spells (next v)) stop ts b rest → FoundBy (Spells (token view next)) stop (t ∷ ts) b rest
token_found stop view next t ts v b rest seen f = record { front = t ∷ f.front; whole = ap (λ y. t ∷ y) f.whole; is_phrase = (v, seen, f.is_phrase); stopped = f.stopped }

pub plan-found : {A : Type 0} (stop : A → List Lexeme → Type 0) (plan : Plan A) → Ready stop plan → (given : List Lexeme) (b : A) (rest : List Lexeme) → run plan given ≡ Ok (b, rest) → FoundBy (Spells plan) stop given b rest
plan-found stop (done a) ready given b rest h =
    let both = ok_same (run (done a) given) (a, given) (b, rest) refl h in
    let left : a ≡ b = ap (λ p. p.0) both in
    record { front = []; whole = ap (λ p. p.1) both; is_phrase = (left, refl); stopped = subst (λ y. stop y rest) left (ready rest) }
plan-found stop (token view next) ready [] b rest h = absurd cc
plan-found stop (token view next) ready (t ∷ ts) b rest h =
    elim (tells (view t.symbol)) [
      | inr v ↦ token_found stop view next t ts v.0 b rest v.1 (plan-found stop (next v.0) (ready.1 v.0) ts b rest (ap (λ o. choose o (Err (t ∷ ts)) (λ v. run (next v) ts)) (sym v.1) ∙ h))
      | inl none ↦ (let r : Err (t ∷ ts) ≡ Ok (b, rest) = ap (λ o. choose o (Err (t ∷ ts)) (λ v. run (next v) ts)) (sym none) ∙ h in absurd cc)
    ]
plan-found stop (peek next) ready [] b rest h = absurd cc
plan-found stop (peek next) ready (t ∷ ts) b rest h =
    let r = ready.1 t in
    let f = plan-found stop (next t) r.0 (t ∷ ts) b rest h in
    record { front = f.front; whole = f.whole; is_phrase = seen next t ts b f.front rest (r.1 b) f.whole f.is_phrase; stopped = f.stopped }
plan-found stop (part phrase own take next) ready given b rest h =
    let step = bind_ok (take given) (λ x. run (next x.0) x.1) (b, rest) h in
    let first = ready.0.found given step.0.0 step.0.1 step.1 in
    let second = plan-found stop (next step.0.0) (ready.1 step.0.0 first.front first.is_phrase).0 step.0.1 b rest step.2 in
    record {
      front = first.front ++ second.front;
      whole = first.whole ∙ ap (λ y. first.front ++ y) second.whole ∙ sym (append_assoc first.front second.front rest);
      is_phrase = record { value = step.0.0; front = first.front; back = second.front; whole = refl; is_first = first.is_phrase; is_next = second.is_phrase };
      stopped = second.stopped;
    }
plan-found stop (last phrase own take build) ready given b rest h =
    let step = bind_ok (take given) (λ x. Ok (build x.0, x.1)) (b, rest) h in
    let first = ready.0.found given step.0.0 step.0.1 step.1 in
    let r : Taken _ = Ok (build step.0.0, step.0.1) in
    let both = ok_same r (build step.0.0, step.0.1) (b, rest) refl step.2 in
    let left : build step.0.0 ≡ b = ap (λ p. p.0) both in
    let right : step.0.1 ≡ rest = ap (λ p. p.1) both in
    record {
      front = first.front;
      whole = first.whole ∙ ap (λ y. first.front ++ y) right;
      is_phrase = (step.0.0, left, first.is_phrase);
      stopped = subst (λ y. stop y rest) left (ready.2 step.0.0 rest (subst (own step.0.0) right first.stopped));
    }

-- a fault at the very first token
at_once : {A : Type 0} (phrase : A → List Lexeme → Type 0) (take : Taker A) (given left : List Lexeme) → Somewhere phrase → given ≡ left → ((other : List Lexeme) → SameFirst left other → take other ≡ Err other) → FaultOf phrase take given left
at_once phrase take given left some e same = record { before = []; completion = some.value; more = some.tokens; whole = e; completed = some.is_phrase; same = same }

-- at the end of the tokens
at_end : {A : Type 0} (phrase : A → List Lexeme → Type 0) (take : Taker A) (left : List Lexeme) → Somewhere phrase → [] ≡ left → FaultOf phrase take [] left
at_end phrase take left some e = at_once phrase take [] left some e (λ other d. absurd (subst (λ l. SameFirst l other) (sym e) d))

-- a token that is seen as nothing
refused : {A V : Type 0} (view : Symbol → Option V) (next : V → Plan A) (t : Lexeme) (ts other : List Lexeme) → view t.symbol ≡ None → SameFirst (t ∷ ts) other → run (token view next) other ≡ Err other
refused view next t ts [] none d = absurd d
refused view next t ts (u ∷ us) none d =
    ap (λ o. choose o (Err (u ∷ us)) (λ v. run (next v) us)) (ap (λ w. view w.symbol) (sym d) ∙ none)

-- what a look at the first token reads depends on that token
looked : {A : Type 0} (next : Lexeme → Plan A) (t : Lexeme) (ts other : List Lexeme) → SameFirst (t ∷ ts) other → run (next t) other ≡ Err other → run (peek next) other ≡ Err other
looked next t ts [] d h = absurd d
looked next t ts (u ∷ us) d h = subst (λ v. run (next v) (u ∷ us) ≡ Err (u ∷ us)) d h

-- the fault behind a look
peek_fault : {A : Type 0} (next : Lexeme → Plan A) (t : Lexeme) (ts left : List Lexeme) → Somewhere (Spells (peek next)) → (before : List Lexeme) (completion : A) (more : List Lexeme) → t ∷ ts ≡ before ++ left → Spells (next t) completion (before ++ more) → ((other : List Lexeme) → SameFirst left other → run (next t) (before ++ other) ≡ Err other) → FaultOf (Spells (peek next)) (run (peek next)) (t ∷ ts) left
peek_fault next t ts left some [] completion more whole completed same =
    at_once (Spells (peek next)) (run (peek next)) (t ∷ ts) left some whole (λ other d. looked next t ts other (subst (λ l. SameFirst l other) (sym whole) d) (same other d))
peek_fault next t ts left some (v ∷ vs) completion more whole completed same =
    let head : t ≡ v = cc in
    record {
      before = v ∷ vs;
      completion = completion;
      more = more;
      whole = whole;
      completed = subst (λ u. Spells (next u) completion (v ∷ (vs ++ more))) head completed;
      same = λ other d. subst (λ u. run (next u) (v ∷ (vs ++ other)) ≡ Err other) head (same other d);
    }

-- a token before a fault
token_fault : {A V : Type 0} (view : Symbol → Option V) (next : V → Plan A) (t : Lexeme) (ts left : List Lexeme) (v : V) → view t.symbol ≡ Some v → FaultOf (Spells (next v)) (run (next v)) ts left → FaultOf (Spells (token view next)) (run (token view next)) (t ∷ ts) left
token_fault view next t ts left v seen f = record {
  before = t ∷ f.before;
  completion = f.completion;
  more = f.more;
  whole = ap (λ y. t ∷ y) f.whole;
  completed = (v, seen, f.completed);
  same = λ other d. ap (λ o. choose o (Err (t ∷ (f.before ++ other))) (λ v. run (next v) (f.before ++ other))) seen ∙ f.same other d;
}

-- a part that isn't there, and whatever completes it
part_fault : {A X : Type 0} (phrase own : X → List Lexeme → Type 0) (take : Taker X) (next : X → Plan A) (given left : List Lexeme) → (f : FaultOf phrase take given left) → Somewhere (Spells (next f.completion)) → FaultOf (Spells (part phrase own take next)) (run (part phrase own take next)) given left
part_fault phrase own take next given left f some = record {
  before = f.before;
  completion = some.value;
  more = f.more ++ some.tokens;
  whole = f.whole;
  completed = record { value = f.completion; front = f.before ++ f.more; back = some.tokens; whole = sym (append_assoc f.before f.more some.tokens); is_first = f.completed; is_next = some.is_phrase };
  same = λ other d. ap (λ r. r >>= λ x. run (next x.0) x.1) (f.same other d);
}

-- a fault behind a part
behind_part : {A X : Type 0} (phrase own : X → List Lexeme → Type 0) (take : Taker X) (next : X → Plan A) → Takes phrase own take → (given : List Lexeme) (x : X) (rest left : List Lexeme) → FoundBy phrase own given x rest → FaultOf (Spells (next x)) (run (next x)) rest left → FaultOf (Spells (part phrase own take next)) (run (part phrase own take next)) given left
behind_part phrase own take next takes given x rest left first f = record {
  before = first.front ++ f.before;
  completion = f.completion;
  more = f.more;
  whole = first.whole ∙ ap (λ y. first.front ++ y) f.whole ∙ sym (append_assoc first.front f.before left);
  completed = record { value = x; front = first.front; back = f.before ++ f.more; whole = append_assoc first.front f.before f.more; is_first = first.is_phrase; is_next = f.completed };
  same = λ other d.
      let taken = takes.complete x first.front (f.before ++ other) first.is_phrase (takes.alike x f.before left other d (subst (own x) f.whole first.stopped)) in
      ap (run (part phrase own take next)) (append_assoc first.front f.before other)
      ∙ then_ok (take (first.front ++ (f.before ++ other))) x (f.before ++ other) (λ y. run (next y.0) y.1) taken
      ∙ f.same other d;
}

pub plan-fault : {A : Type 0} (stop : A → List Lexeme → Type 0) (plan : Plan A) → Ready stop plan → (given left : List Lexeme) → run plan given ≡ Err left → FaultOf (Spells plan) (run plan) given left
plan-fault stop (done a) ready given left h = absurd cc
plan-fault stop (token view next) ready [] left h =
    at_end (Spells (token view next)) (run (token view next)) left (plan-some stop (token view next) ready) (err_same (run (token view next) []) [] left refl h)
plan-fault stop (token view next) ready (t ∷ ts) left h =
    elim (tells (view t.symbol)) [
      | inr v ↦ token_fault view next t ts left v.0 v.1 (plan-fault stop (next v.0) (ready.1 v.0) ts left (ap (λ o. choose o (Err (t ∷ ts)) (λ v. run (next v) ts)) (sym v.1) ∙ h))
      | inl none ↦ (
          let at = err_same (run (token view next) (t ∷ ts)) (t ∷ ts) left (ap (λ o. choose o (Err (t ∷ ts)) (λ v. run (next v) ts)) none) h in
          at_once (Spells (token view next)) (run (token view next)) (t ∷ ts) left (plan-some stop (token view next) ready) at (λ other d. refused view next t ts other none (subst (λ l. SameFirst l other) (sym at) d)))
    ]
plan-fault stop (peek next) ready [] left h =
    at_end (Spells (peek next)) (run (peek next)) left ready.0 (err_same (run (peek next) []) [] left refl h)
plan-fault stop (peek next) ready (t ∷ ts) left h =
    let f = plan-fault stop (next t) (ready.1 t).0 (t ∷ ts) left h in
    peek_fault next t ts left ready.0 f.before f.completion f.more f.whole f.completed f.same
plan-fault stop (part phrase own take next) ready given left h =
    elim (bind_err (take given) (λ x. run (next x.0) x.1) left h) [
      | inl e ↦ (
          let f = ready.0.fault given left e in
          part_fault phrase own take next given left f (plan-some stop (next f.completion) (ready.1 f.completion (f.before ++ f.more) f.completed).0))
      | inr step ↦ (
          let first = ready.0.found given step.0.0 step.0.1 step.1 in
          behind_part phrase own take next ready.0 given step.0.0 step.0.1 left first (plan-fault stop (next step.0.0) (ready.1 step.0.0 first.front first.is_phrase).0 step.0.1 left step.2))
    ]
plan-fault stop (last phrase own take build) ready given left h =
    elim (bind_err (take given) (λ x. Ok (build x.0, x.1)) left h) [
      | inl e ↦ (
          let f = ready.0.fault given left e in
          record {
            before = f.before;
            completion = build f.completion;
            more = f.more;
            whole = f.whole;
            completed = (f.completion, refl, f.completed);
            same = λ other d. ap (λ r. r >>= λ x. Ok (build x.0, x.1)) (f.same other d);
          })
      | inr step ↦ absurd (let no_fault : Ok (build step.0.0, step.0.1) ≡ Err left = step.2 in cc)
    ]

-- a plan that is ready takes what it spells, where what stops it depends on one token alone
pub plan-takes : {A : Type 0} (stop : A → List Lexeme → Type 0) (plan : Plan A) → Ready stop plan → ((x : A) (before left other : List Lexeme) → SameFirst left other → stop x (before ++ left) → stop x (before ++ other)) → Takes (Spells plan) stop (run plan)
plan-takes stop plan ready alike = record {
  complete = plan-complete stop plan ready;
  found = plan-found stop plan ready;
  fault = plan-fault stop plan ready;
  some = plan-some stop plan ready;
  alike = alike;
}
