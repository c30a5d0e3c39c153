-- Each output that was asked for has a number of its own, so one that came too late isn't among the submitted ones.
use Rattle.std.proofs.Common.{◌≡◌, ℕ, ◌+◌, ◌≤◌, ◌⊎◌, inl, inr, true, List, [], ◌∷◌, ◌++◌, refl, sym, ap, ◌∙◌, arith}
use Rattle.std.specs.Prelude.{count_by}
use Rattle.std.proofs.lemmas.List.Sums.{sum_by_push}
use Rattle.rtio_types.specs.declared.event.Event.{Event}
use Rattle.rtio_types.specs.declared.request.Reply.TheVariants as answer
use Rattle.rtio_types.specs.declared.request.Request.TheVariants as ask
use Rattle.rtio_core.specs.declared.data.Act.{Act}
use Rattle.rtio_core.specs.declared.data.Act.TheVariants.{Asked}
use Rattle.rtio_core.specs.declared.data.Entry.{Entry}
use Rattle.rtio_headline.specs.Headline.{IsAmong, is_output_act, outputs_asked, done_output, submitted_behind}
use Rattle.trace_fates.specs.Asked.{AskedOutput, IsAsked, output_by, outputs_behind}

pub split_asked : (a : AskedOutput) (xs ys : List AskedOutput) → IsAsked a (xs ++ ys) → IsAsked a xs ⊎ IsAsked a ys
split_asked a [] ys here = inr here
split_asked a (x ∷ xs) ys (inl same) = inl (inl same)
split_asked a (x ∷ xs) ys (inr there) = by (split_asked a xs ys there)
  where
    by : IsAsked a xs ⊎ IsAsked a ys → IsAsked a (x ∷ xs) ⊎ IsAsked a ys
    by (inl h) = inl (inr h)
    by (inr h) = inr h

split_among : (p : ℕ × Event) (xs ys : List (ℕ × Event)) → IsAmong p (xs ++ ys) → IsAmong p xs ⊎ IsAmong p ys
split_among p [] ys here = inr here
split_among p (x ∷ xs) ys (inl same) = inl (inl same)
split_among p (x ∷ xs) ys (inr there) = by (split_among p xs ys there)
  where
    by : IsAmong p xs ⊎ IsAmong p ys → IsAmong p (x ∷ xs) ⊎ IsAmong p ys
    by (inl h) = inl (inr h)
    by (inr h) = inr h

in_front : (p : ℕ × Event) (xs ys : List (ℕ × Event)) → IsAmong p xs → IsAmong p (xs ++ ys)
in_front p [] ys here = absurd here
in_front p (x ∷ xs) ys (inl same) = inl same
in_front p (x ∷ xs) ys (inr there) = inr (in_front p xs ys there)

in_back : (p : ℕ × Event) (xs ys : List (ℕ × Event)) → IsAmong p ys → IsAmong p (xs ++ ys)
in_back p [] ys there = there
in_back p (x ∷ xs) ys there = inr (in_back p xs ys there)

-- ---- one entry

head_asked : (n : ℕ) (act : Act) (a : AskedOutput) → IsAsked a (output_by n act) → (a.own.0 ≡ n) × (is_output_act act ≡ true)
head_asked n (Asked (ask.Out e) reply at) a (inl same) = (ap (λ (x : AskedOutput). x.own.0) same, refl)
head_asked n (Asked (ask.Out e) reply at) a (inr there) = absurd there
head_asked n act a here = absurd here

head_done : (n : ℕ) (act : Act) (p : ℕ × Event) → IsAmong p (done_output n act) → (p.0 ≡ n) × (is_output_act act ≡ true)
head_done n (Asked (ask.Out e) answer.Done at) p (inl same) = (ap (λ (x : ℕ × Event). x.0) same, refl)
head_done n (Asked (ask.Out e) answer.Done at) p (inr there) = absurd there
head_done n act p here = absurd here

head_late : (n : ℕ) (act : Act) (a : AskedOutput) → IsAsked a (output_by n act) → a.reply ≡ answer.Underflow → IsAmong a.own (done_output n act) → ⊥
head_late n (Asked (ask.Out e) answer.Done at) a (inl same) is h =
    let differ : answer.Done ≡ answer.Underflow = sym (ap (λ (x : AskedOutput). x.reply) same) ∙ is in absurd (cc)
head_late n (Asked (ask.Out e) answer.Done at) a (inr there) is h = absurd there
head_late n act a here is h = absurd h

head_in : (n : ℕ) (act : Act) (a : AskedOutput) → IsAsked a (output_by n act) → a.reply ≡ answer.Done → IsAmong a.own (done_output n act)
head_in n (Asked (ask.Out e) answer.Done at) a (inl same) is = inl (ap (λ (x : AskedOutput). x.own) same)
head_in n (Asked (ask.Out e) reply at) a (inl same) is =
    let differ : reply ≡ answer.Done = sym (ap (λ (x : AskedOutput). x.reply) same) ∙ is in absurd (cc)
head_in n (Asked (ask.Out e) reply at) a (inr there) is = absurd there
head_in n act a here is = absurd here

-- ---- more entries

one_more : (before : List Entry) (entry : Entry) → outputs_asked (before ++ entry ∷ []) ≡ outputs_asked before + count_by (λ (x : Entry). is_output_act x.act) (entry ∷ [])
one_more before entry = sum_by_push _ before entry ∙ omega arith

pub no_less : (before : List Entry) (entry : Entry) → outputs_asked before ≤ outputs_asked (before ++ entry ∷ [])
no_less before entry = omega (arith, one_more before entry)

counted_one : (before : List Entry) (entry : Entry) → is_output_act entry.act ≡ true → outputs_asked (before ++ entry ∷ []) ≡ outputs_asked before + 1
counted_one before entry is = one_more before entry ∙ ap (λ n. outputs_asked before + n) (rw is refl)

pub low_submitted : (before rest : List Entry) (p : ℕ × Event) → IsAmong p (submitted_behind before rest) → outputs_asked before ≤ p.0
low_submitted before [] p here = absurd here
low_submitted before (entry ∷ rest) p here =
    by (split_among p (done_output (outputs_asked before) entry.act) (submitted_behind (before ++ entry ∷ []) rest) here) (λ there. low_submitted (before ++ entry ∷ []) rest p there)
  where
    by : IsAmong p (done_output (outputs_asked before) entry.act) ⊎ IsAmong p (submitted_behind (before ++ entry ∷ []) rest)
        → (IsAmong p (submitted_behind (before ++ entry ∷ []) rest) → outputs_asked (before ++ entry ∷ []) ≤ p.0)
        → outputs_asked before ≤ p.0
    by (inl h) on = omega (arith, (head_done (outputs_asked before) entry.act p h).0)
    by (inr h) on = omega (arith, no_less before entry, on h)

low_asked : (before rest : List Entry) (a : AskedOutput) → IsAsked a (outputs_behind before rest) → outputs_asked before ≤ a.own.0
low_asked before [] a here = absurd here
low_asked before (entry ∷ rest) a here =
    by (split_asked a (output_by (outputs_asked before) entry.act) (outputs_behind (before ++ entry ∷ []) rest) here) (λ there. low_asked (before ++ entry ∷ []) rest a there)
  where
    by : IsAsked a (output_by (outputs_asked before) entry.act) ⊎ IsAsked a (outputs_behind (before ++ entry ∷ []) rest)
        → (IsAsked a (outputs_behind (before ++ entry ∷ []) rest) → outputs_asked (before ++ entry ∷ []) ≤ a.own.0)
        → outputs_asked before ≤ a.own.0
    by (inl h) on = omega (arith, (head_asked (outputs_asked before) entry.act a h).0)
    by (inr h) on = omega (arith, no_less before entry, on h)

-- one that came too late isn't submitted
pub late_not_submitted : (before rest : List Entry) (a : AskedOutput) → IsAsked a (outputs_behind before rest) → a.reply ≡ answer.Underflow → IsAmong a.own (submitted_behind before rest) → ⊥
late_not_submitted before [] a here is among = absurd here
late_not_submitted before (entry ∷ rest) a here is among =
    by
    (split_asked a (output_by (outputs_asked before) entry.act) (outputs_behind (before ++ entry ∷ []) rest) here)
    (split_among a.own (done_output (outputs_asked before) entry.act) (submitted_behind (before ++ entry ∷ []) rest) among)
    (λ one other. late_not_submitted (before ++ entry ∷ []) rest a one is other)
  where
    by : IsAsked a (output_by (outputs_asked before) entry.act) ⊎ IsAsked a (outputs_behind (before ++ entry ∷ []) rest)
        → IsAmong a.own (done_output (outputs_asked before) entry.act) ⊎ IsAmong a.own (submitted_behind (before ++ entry ∷ []) rest)
        → (IsAsked a (outputs_behind (before ++ entry ∷ []) rest) → IsAmong a.own (submitted_behind (before ++ entry ∷ []) rest) → ⊥)
        → ⊥
    by (inl one) (inl other) on = head_late (outputs_asked before) entry.act a one is other
    by (inl one) (inr other) on =
        let h = head_asked (outputs_asked before) entry.act a one in
        let low = low_submitted (before ++ entry ∷ []) rest a.own other in
        let more = counted_one before entry h.1 in
        absurd (omega (arith, h.0, low, more))
    by (inr one) (inl other) on =
        let h = head_done (outputs_asked before) entry.act a.own other in
        let low = low_asked (before ++ entry ∷ []) rest a one in
        let more = counted_one before entry h.1 in
        absurd (omega (arith, h.0, low, more))
    by (inr one) (inr other) on = on one other

-- one that was carried out is
pub done_submitted : (before rest : List Entry) (a : AskedOutput) → IsAsked a (outputs_behind before rest) → a.reply ≡ answer.Done → IsAmong a.own (submitted_behind before rest)
done_submitted before [] a here is = absurd here
done_submitted before (entry ∷ rest) a here is =
    by (split_asked a (output_by (outputs_asked before) entry.act) (outputs_behind (before ++ entry ∷ []) rest) here) (λ there. done_submitted (before ++ entry ∷ []) rest a there is)
  where
    by : IsAsked a (output_by (outputs_asked before) entry.act) ⊎ IsAsked a (outputs_behind (before ++ entry ∷ []) rest)
        → (IsAsked a (outputs_behind (before ++ entry ∷ []) rest) → IsAmong a.own (submitted_behind (before ++ entry ∷ []) rest))
        → IsAmong a.own (done_output (outputs_asked before) entry.act ++ submitted_behind (before ++ entry ∷ []) rest)
    by (inl h) on = in_front a.own (done_output (outputs_asked before) entry.act) (submitted_behind (before ++ entry ∷ []) rest) (head_in (outputs_asked before) entry.act a h is)
    by (inr h) on = in_back a.own (done_output (outputs_asked before) entry.act) (submitted_behind (before ++ entry ∷ []) rest) (on h)
