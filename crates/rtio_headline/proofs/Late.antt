-- An output that came too late has a number that no submitted one has.
use Rattle.std.proofs.Common.{inl, inr, ◌≡◌, ◌+◌, ◌≤◌, ◌⊎◌, ℕ, Bool, true, List, [], ◌∷◌, ◌++◌, refl, ap, ◌∙◌, sym, subst, cond, append_assoc, append-nil, arith}
use Rattle.std.proofs.lemmas.List.Sums.{sum_by-append, sum_by_push}
use Rattle.rtio_types.specs.declared.event.Event.{Event}
use Rattle.rtio_types.specs.declared.request.Request.TheVariants as ask
use Rattle.rtio_types.specs.declared.request.Reply.TheVariants as answer
use Rattle.rtio_core.specs.declared.data.Act.{Act}
use Rattle.rtio_core.specs.declared.data.Act.TheVariants.{Asked}
use Rattle.rtio_core.specs.declared.data.Entry.{Entry}
use Rattle.rtio_headline.specs.Headline.{IsAmong, done_output, is_output_act, outputs_asked, submitted_behind}

-- what is among two lists is among one of them
among-append : (p : ℕ × Event) (xs ys : List (ℕ × Event)) → IsAmong p (xs ++ ys) → IsAmong p xs ⊎ IsAmong p ys
among-append p [] ys here = inr here
among-append p (x ∷ xs) ys (inl is) = inl (inl is)
among-append p (x ∷ xs) ys (inr there) = deeper (among-append p xs ys there)
  where
    deeper : IsAmong p xs ⊎ IsAmong p ys → IsAmong p (x ∷ xs) ⊎ IsAmong p ys
    deeper (inl here) = inl (inr here)
    deeper (inr there) = inr there

-- what an act submits has the number given, and the act asks for an output
done-number : (n : ℕ) (act : Act) (p : ℕ × Event) → IsAmong p (done_output n act) → (p.0 ≡ n) × (is_output_act act ≡ true)
done-number n (Asked (ask.Out e) answer.Done at) p (inl is) = (ap (λ (q : ℕ × Event). q.0) is, refl)
done-number n (Asked (ask.Out e) answer.Done at) p (inr none) = absurd none
done-number n act p here = absurd here

-- an act that asks for an output counts
counted : (before : List Entry) (entry : Entry) → is_output_act entry.act ≡ true → outputs_asked (before ++ entry ∷ []) ≡ outputs_asked before + 1
counted before entry asks = sum_by_push _ before entry ∙ ap (λ (b : Bool). outputs_asked before + cond b 1 0) asks

-- what is submitted behind some entries has their count for a number, or more
numbers-behind : (before rest : List Entry) (p : ℕ × Event) → IsAmong p (submitted_behind before rest) → outputs_asked before ≤ p.0
numbers-behind before [] p here = absurd here
numbers-behind before (entry ∷ rest) p here =
    by (among-append p (done_output (outputs_asked before) entry.act) (submitted_behind (before ++ entry ∷ []) rest) here)
    (numbers-behind (before ++ entry ∷ []) rest p)
  where
    by : IsAmong p (done_output (outputs_asked before) entry.act) ⊎ IsAmong p (submitted_behind (before ++ entry ∷ []) rest)
        → (IsAmong p (submitted_behind (before ++ entry ∷ []) rest) → outputs_asked (before ++ entry ∷ []) ≤ p.0) → outputs_asked before ≤ p.0
    by (inl own) ih = let number : p.0 ≡ outputs_asked before = (done-number (outputs_asked before) entry.act p own).0 in omega (arith, number)
    by (inr later) ih =
        let more : outputs_asked (before ++ entry ∷ []) ≤ p.0 = ih later in
        let count : outputs_asked (before ++ entry ∷ []) ≡ outputs_asked before + outputs_asked (entry ∷ []) = sum_by-append _ before (entry ∷ []) in
        omega (arith, more, count)

-- where an entry asked for an output and submits none, nothing that is submitted has its number
pub not-submitted : (front before rest : List Entry) (entry : Entry) (p : ℕ × Event) → is_output_act entry.act ≡ true → done_output (outputs_asked (front ++ before)) entry.act ≡ []
    → p.0 ≡ outputs_asked (front ++ before) → IsAmong p (submitted_behind front (before ++ entry ∷ rest)) → ⊥
not-submitted front [] rest entry p asks none number here =
    by (among-append p (done_output (outputs_asked front) entry.act) (submitted_behind (front ++ entry ∷ []) rest) here)
  where
    by : IsAmong p (done_output (outputs_asked front) entry.act) ⊎ IsAmong p (submitted_behind (front ++ entry ∷ []) rest) → ⊥
    by (inl own) = subst (IsAmong p) (ap (λ (h : List Entry). done_output (outputs_asked h) entry.act) (sym (append-nil front)) ∙ none) own
    by (inr later) =
        let more : outputs_asked (front ++ entry ∷ []) ≤ p.0 = numbers-behind (front ++ entry ∷ []) rest p later in
        let count : outputs_asked (front ++ entry ∷ []) ≡ outputs_asked front + 1 = counted front entry asks in
        let its : p.0 ≡ outputs_asked front = number ∙ ap (λ (h : List Entry). outputs_asked h) (append-nil front) in
        omega (arith, more, count, its)
not-submitted front (x ∷ before) rest entry p asks none number here =
    by (among-append p (done_output (outputs_asked front) x.act) (submitted_behind (front ++ x ∷ []) (before ++ entry ∷ rest)) here)
    (not-submitted (front ++ x ∷ []) before rest entry p asks (ap (λ (h : List Entry). done_output (outputs_asked h) entry.act) same ∙ none) its)
  where
    same : (front ++ x ∷ []) ++ before ≡ front ++ x ∷ before
    same = append_assoc front (x ∷ []) before

    its : p.0 ≡ outputs_asked ((front ++ x ∷ []) ++ before)
    its = number ∙ ap (λ (h : List Entry). outputs_asked h) (sym same)

    by : IsAmong p (done_output (outputs_asked front) x.act) ⊎ IsAmong p (submitted_behind (front ++ x ∷ []) (before ++ entry ∷ rest))
        → (IsAmong p (submitted_behind (front ++ x ∷ []) (before ++ entry ∷ rest)) → ⊥) → ⊥
    by (inl own) ih =
        let is = done-number (outputs_asked front) x.act p own in
        let first : p.0 ≡ outputs_asked front = is.0 in
        let count : outputs_asked (front ++ x ∷ []) ≡ outputs_asked front + 1 = counted front x is.1 in
        let all : outputs_asked ((front ++ x ∷ []) ++ before) ≡ outputs_asked (front ++ x ∷ []) + outputs_asked before = sum_by-append _ (front ++ x ∷ []) before in
        omega (arith, first, count, all, its)
    by (inr later) ih = ih later
