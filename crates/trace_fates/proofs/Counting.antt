-- How often a number stands among the lost outputs, and how many came out.
use Rattle.std.proofs.Common.{◌≡◌, ◌≢◌, ℕ, ◌+◌, ◌<◌, ◌≤◌, ◌⊎◌, inl, inr, Bool, true, false, List, [], ◌∷◌, ◌++◌, refl, sym, ap, subst, ◌∙◌, length, cond, zero-add, arith}
use Rattle.std.specs.Prelude.{◌↔◌, map, filter, not, ◌==◌, count_by}
use Rattle.std.proofs.lemmas.Bool.{ne_eqb, true≢false}
use Rattle.std.proofs.lemmas.Bool.Decides.{Decides-eqb}
use Rattle.std.proofs.lemmas.List.{length-append, length-map}
use Rattle.std.proofs.lemmas.List.Filters.{length-filter_both}
use Rattle.std.proofs.lemmas.List.Sums.{sum_by-cons}
use Rattle.rtio_types.specs.declared.event.Event.{Event}
use Rattle.rtio_types.specs.declared.request.Reply.{Reply}
use Rattle.rtio_types.specs.declared.request.Reply.TheVariants as answer
use Rattle.output_merge.specs.Groups.{is_put_out_before}
use Rattle.output_merge.proofs.Cycles.{put_out_order}
use Rattle.rtio_core.specs.Core.{CoreState}
use Rattle.rtio_core.specs.Lawful.{IsLawful}
use Rattle.rtio_core.specs.Reply.{outputs_at}
use Rattle.rtio_headline.specs.Headline.{AreInOrder, Headline, IsAmong, IsPutOut}
use Rattle.trace_fates.specs.declared.data.Fate.{Fate}
use Rattle.trace_fates.specs.declared.data.Fate.TheVariants as fate
use Rattle.trace_fates.specs.declared.data.TracedOutput.{TracedOutput}
use Rattle.trace_fates.specs.Asked.{AskedOutput, IsAsked, outputs_of}
use Rattle.trace_fates.specs.Fates.{came_out, fate_of, is_out, lost, traced, traced_output}
use Rattle.trace_fates.specs.Laws.{IsToldOnce, lost_lines}
use Rattle.trace_fates.specs.Passes.{AreNumberedFrom}
use Rattle.trace_fates.proofs.Asking.{done_by, done_in, numbered_of, submitted_done}
use Rattle.trace_fates.proofs.Joined.{numbered_told, told_as}
use Rattle.trace_fates.proofs.Telling.{tells_asked}

-- how many of some outputs have a number
abbrev with_number : ℕ → List TracedOutput → ℕ
with_number n xs = count_by (λ (t : TracedOutput). t.number == n) xs

-- those that didn't come out
abbrev lost_of : List TracedOutput → List TracedOutput
lost_of xs = filter (λ (t : TracedOutput). not (is_out t.fate)) xs

-- one more that has another number, and one more that has the number
other_lost : (n : ℕ) (t : TracedOutput) (xs : List TracedOutput) → t.number ≢ n → with_number n (lost_of (t ∷ xs)) ≡ with_number n (lost_of xs)
other_lost n t xs apart = by (is_out t.fate)
  where
    by : (out : Bool) → with_number n (cond (not out) (t ∷ lost_of xs) (lost_of xs)) ≡ with_number n (lost_of xs)
    by true = refl
    by false =
        sum_by-cons (λ (u : TracedOutput). cond (u.number == n) 1 0) t (lost_of xs)
        ∙ ap (λ (b : Bool). cond b 1 0 + with_number n (lost_of xs)) (ne_eqb t.number n apart)
        ∙ zero-add (with_number n (lost_of xs))

own_lost : (t : TracedOutput) (xs : List TracedOutput) → with_number t.number (lost_of xs) ≡ 0 → with_number t.number (lost_of (t ∷ xs)) ≡ cond (is_out t.fate) 0 1
own_lost t xs none = by (is_out t.fate)
  where
    by : (out : Bool) → with_number t.number (cond (not out) (t ∷ lost_of xs) (lost_of xs)) ≡ cond out 0 1
    by true = none
    by false =
        sum_by-cons (λ (u : TracedOutput). cond (u.number == t.number) 1 0) t (lost_of xs)
        ∙ ap (λ (b : Bool). cond b 1 0 + with_number t.number (lost_of xs)) ((Decides-eqb t.number t.number).1 refl)
        ∙ ap (λ n. 1 + n) none

none_later : (n first : ℕ) (xs : List TracedOutput) → AreNumberedFrom first xs → n < first → with_number n (lost_of xs) ≡ 0
none_later n first [] numbers low = refl
none_later n first (t ∷ xs) numbers low =
    other_lost n t xs (λ same. omega (arith, same, numbers.0, low)) ∙ none_later n (first + 1) xs numbers.1 (omega (arith, low))

-- each number stands once among those that have fates
abbrev told_by : (AskedOutput → Fate) → List AskedOutput → List TracedOutput
told_by fates xs = map (λ a. told_as a (fates a)) xs

low_number : (fates : AskedOutput → Fate) (first : ℕ) (xs : List AskedOutput) (a : AskedOutput) → AreNumberedFrom first (told_by fates xs) → IsAsked a xs → first ≤ a.own.0
low_number fates first [] a numbers here = absurd here
low_number fates first (x ∷ xs) a numbers (inl same) = omega (arith, numbers.0, ap (λ (b : AskedOutput). b.own.0) same)
low_number fates first (x ∷ xs) a numbers (inr there) = omega (arith, low_number fates (first + 1) xs a numbers.1 there)

once : (fates : AskedOutput → Fate) (first : ℕ) (xs : List AskedOutput) (a : AskedOutput) → AreNumberedFrom first (told_by fates xs) → IsAsked a xs
    → with_number a.own.0 (lost_of (told_by fates xs)) ≡ cond (is_out (fates a)) 0 1
once fates first [] a numbers here = absurd here
once fates first (x ∷ xs) a numbers (inl same) =
    subst (λ (b : AskedOutput). with_number b.own.0 (lost_of (told_by fates (x ∷ xs))) ≡ cond (is_out (fates b)) 0 1) (sym same)
    (own_lost (told_as x (fates x)) (told_by fates xs) (none_later x.own.0 (first + 1) (told_by fates xs) numbers.1 (omega (arith, numbers.0))))
once fates first (x ∷ xs) a numbers (inr there) =
    let low : first + 1 ≤ a.own.0 = low_number fates (first + 1) xs a numbers.1 there in
    other_lost a.own.0 (told_as x (fates x)) (told_by fates xs) (λ same. omega (arith, same, numbers.0, low))
    ∙ once fates (first + 1) xs a numbers.1 there

out_only : (f : Fate) → is_out f ≡ true → f ≡ fate.CameOut
out_only fate.CameOut is = refl
out_only f is = absurd (true≢false (sym is))

pub told_once : (core : CoreState) → IsLawful core.config core.history → IsToldOnce core
told_once core lawful a here = by (is_out (fate_of core a.own a.reply)) refl
  where
    lines : lost_lines core a.own.0 ≡ cond (is_out (fate_of core a.own a.reply)) 0 1
    lines =
        once (λ b. fate_of core b.own b.reply) 0 (outputs_of core.history) a
        (numbered_told core.counter 0 (λ b. fate_of core b.own b.reply) (outputs_of core.history) (numbered_of core.counter core.history)) here

    tells : (fate_of core a.own a.reply ≡ fate.CameOut) ↔ IsPutOut core a.own
    tells = tells_asked core lawful a here

    by : (out : Bool) → is_out (fate_of core a.own a.reply) ≡ out
        → (IsPutOut core a.own × (lost_lines core a.own.0 ≡ 0)) ⊎ ((¬ IsPutOut core a.own) × (lost_lines core a.own.0 ≡ 1))
    by true is = inl (tells.0 (out_only (fate_of core a.own a.reply) is), lines ∙ ap (λ (b : Bool). cond b 0 1) is)
    by false is = inr ((λ out. true≢false (sym (ap is_out (tells.1 out)) ∙ is)), lines ∙ ap (λ (b : Bool). cond b 0 1) is)

-- ---- lists without a repeat

abbrev AreDistinct : List (ℕ × Event) → Type 0
AreDistinct [] = Unit {0}
AreDistinct (p ∷ rest) = (¬ IsAmong p rest) × AreDistinct rest

-- a list without one of its events
record IsSplit (p : ℕ × Event) (events : List (ℕ × Event)) : Type 0 where
  pub front : List (ℕ × Event)
  pub back : List (ℕ × Event)
  pub is : events ≡ front ++ p ∷ back

split_at : (p : ℕ × Event) (events : List (ℕ × Event)) → IsAmong p events → IsSplit p events
split_at p [] here = absurd here
split_at p (q ∷ rest) (inl same) = record { front = []; back = rest; is = ap (λ (r : ℕ × Event). r ∷ rest) (sym same) }
split_at p (q ∷ rest) (inr there) =
    let split = split_at p rest there in
    record { front = q ∷ split.front; back = split.back; is = ap (λ (ps : List (ℕ × Event)). q ∷ ps) split.is }

without : (p q : ℕ × Event) (front back : List (ℕ × Event)) → q ≢ p → IsAmong q (front ++ p ∷ back) → IsAmong q (front ++ back)
without p q [] back apart (inl same) = absurd (apart same)
without p q [] back apart (inr there) = there
without p q (r ∷ front) back apart (inl same) = inl same
without p q (r ∷ front) back apart (inr there) = inr (without p q front back apart there)

-- a list without a repeat is no longer than one that has all its events
no_longer : (xs ys : List (ℕ × Event)) → AreDistinct xs → ((p : ℕ × Event) → IsAmong p xs → IsAmong p ys) → length xs ≤ length ys
no_longer [] ys distinct among = omega arith
no_longer (p ∷ xs) ys distinct among =
    let split = split_at p ys (among p (inl refl)) in
    let fewer : length xs ≤ length (split.front ++ split.back) =
    no_longer xs (split.front ++ split.back) distinct.1
    (λ q here. without p q split.front split.back (λ same. distinct.0 (subst (λ (r : ℕ × Event). IsAmong r xs) same here))
    (subst (λ (events : List (ℕ × Event)). IsAmong q events) split.is (among q (inr here)))) in
    omega (arith, fewer, ap length split.is, length-append split.front (p ∷ split.back), length-append split.front split.back)

-- ---- those that were put out

none_behind : (p : ℕ × Event) (xs : List (ℕ × Event)) → AreInOrder (map (λ q. q.1) (p ∷ xs)) → (q : ℕ × Event) → IsAmong q xs → is_put_out_before q p ≡ false
none_behind p [] order q here = absurd here
none_behind p (r ∷ xs) order q (inl same) = ap (λ (s : ℕ × Event). is_put_out_before s p) same ∙ put_out_order.one_way p r order.0
none_behind p (r ∷ xs) order q (inr there) = put_out_order.chain p r q (put_out_order.one_way p r order.0) (none_behind r xs order.1 q there)

not_behind : (p : ℕ × Event) (xs : List (ℕ × Event)) → AreInOrder (map (λ q. q.1) (p ∷ xs)) → IsAmong p xs → ⊥
not_behind p [] order here = here
not_behind p (r ∷ xs) order (inl same) =
    true≢false (sym order.0 ∙ ap (λ (s : ℕ × Event). is_put_out_before s r) same ∙ sym (ap (λ (s : ℕ × Event). is_put_out_before r s) same) ∙ put_out_order.one_way p r order.0)
not_behind p (r ∷ xs) order (inr there) = true≢false (sym order.0 ∙ none_behind r xs order.1 p there)

order_distinct : (xs : List (ℕ × Event)) → AreInOrder (map (λ q. q.1) xs) → AreDistinct xs
order_distinct [] order = tt
order_distinct (p ∷ []) order = ((λ here. here), tt)
order_distinct (p ∷ r ∷ xs) order = (not_behind p (r ∷ xs) order, order_distinct (r ∷ xs) order.1)

-- ---- those that came out

abbrev own_of : TracedOutput → ℕ × Event
own_of t = (t.number, t.event)

-- those of the outputs with fates that came out
abbrev out_of : List TracedOutput → List TracedOutput
out_of xs = filter (λ (t : TracedOutput). is_out t.fate) xs

out_low : (first : ℕ) (xs : List TracedOutput) (p : ℕ × Event) → AreNumberedFrom first xs → IsAmong p (map own_of (out_of xs)) → first ≤ p.0
out_low first [] p numbers here = absurd here
out_low first (t ∷ xs) p numbers here = by (is_out t.fate) here (out_low (first + 1) xs p numbers.1)
  where
    by : (out : Bool) → IsAmong p (map own_of (cond out (t ∷ out_of xs) (out_of xs))) → (IsAmong p (map own_of (out_of xs)) → first + 1 ≤ p.0) → first ≤ p.0
    by true (inl same) low = omega (arith, numbers.0, ap (λ (q : ℕ × Event). q.0) same)
    by true (inr there) low = omega (arith, low there)
    by false there low = omega (arith, low there)

out_distinct : (first : ℕ) (xs : List TracedOutput) → AreNumberedFrom first xs → AreDistinct (map own_of (out_of xs))
out_distinct first [] numbers = tt
out_distinct first (t ∷ xs) numbers = by (is_out t.fate) (out_distinct (first + 1) xs numbers.1)
  where
    by : (out : Bool) → AreDistinct (map own_of (out_of xs)) → AreDistinct (map own_of (cond out (t ∷ out_of xs) (out_of xs)))
    by true ih = ((λ here. omega (arith, out_low (first + 1) xs (own_of t) numbers.1 here, numbers.0)), ih)
    by false ih = ih

-- one of them was asked for, and came out
record CameOutOf (fates : AskedOutput → Fate) (xs : List AskedOutput) (p : ℕ × Event) : Type 0 where
  pub output : AskedOutput
  pub asked : IsAsked output xs
  pub own : output.own ≡ p
  pub out : is_out (fates output) ≡ true

out_asked : (fates : AskedOutput → Fate) (xs : List AskedOutput) (p : ℕ × Event) → IsAmong p (map own_of (out_of (told_by fates xs))) → CameOutOf fates xs p
out_asked fates [] p here = absurd here
out_asked fates (a ∷ xs) p here = by (is_out (fates a)) refl here (out_asked fates xs p)
  where
    deeper : CameOutOf fates xs p → CameOutOf fates (a ∷ xs) p
    deeper found = record { output = found.output; asked = inr found.asked; own = found.own; out = found.out }

    by : (out : Bool) → is_out (fates a) ≡ out → IsAmong p (map own_of (cond out (told_as a (fates a) ∷ out_of (told_by fates xs)) (out_of (told_by fates xs))))
        → (IsAmong p (map own_of (out_of (told_by fates xs))) → CameOutOf fates xs p)
        → CameOutOf fates (a ∷ xs) p
    by true is (inl same) ih = record { output = a; asked = inl refl; own = sym same; out = is }
    by true is (inr there) ih = deeper (ih there)
    by false is there ih = deeper (ih there)

asked_out : (fates : AskedOutput → Fate) (xs : List AskedOutput) (a : AskedOutput) → IsAsked a xs → is_out (fates a) ≡ true → IsAmong a.own (map own_of (out_of (told_by fates xs)))
asked_out fates [] a here out = absurd here
asked_out fates (b ∷ xs) a (inl same) out =
    let passes : is_out (fates b) ≡ true = ap (λ (c : AskedOutput). is_out (fates c)) (sym same) ∙ out in
    rw passes (inl (ap (λ (c : AskedOutput). c.own) same))
asked_out fates (b ∷ xs) a (inr there) out = by (is_out (fates b)) (asked_out fates xs a there out)
  where
    by : (out : Bool) → IsAmong a.own (map own_of (out_of (told_by fates xs))) → IsAmong a.own (map own_of (cond out (told_as b (fates b) ∷ out_of (told_by fates xs)) (out_of (told_by fates xs))))
    by true ih = inr ih
    by false ih = ih

-- one that was carried out was asked for
record WasDone (xs : List AskedOutput) (p : ℕ × Event) : Type 0 where
  pub output : AskedOutput
  pub asked : IsAsked output xs
  pub own : output.own ≡ p
  pub done : output.reply ≡ answer.Done

done_asked : (xs : List AskedOutput) (p : ℕ × Event) → IsAmong p (done_in xs) → WasDone xs p
done_asked [] p here = absurd here
done_asked (a ∷ xs) p here = by a.reply refl here (done_asked xs p)
  where
    deeper : WasDone xs p → WasDone (a ∷ xs) p
    deeper found = record { output = found.output; asked = inr found.asked; own = found.own; done = found.done }

    by : (reply : Reply) → a.reply ≡ reply → IsAmong p (done_by reply a.own ++ done_in xs) → (IsAmong p (done_in xs) → WasDone xs p) → WasDone (a ∷ xs) p
    by answer.Done is (inl same) ih = record { output = a; asked = inl refl; own = sym same; done = is }
    by answer.Done is (inr there) ih = deeper (ih there)
    by reply is there ih = deeper (ih there)

pub as_many_out : (core : CoreState) → IsLawful core.config core.history → Headline core → length (came_out core) ≡ length (outputs_at core.config core.history core.counter)
as_many_out core lawful head =
    let fits : length (map own_of (came_out core)) ≤ length head.outputs.events = no_longer _ _ (out_distinct 0 (traced core) numbers) (λ p here. (head.outputs.exactly p).1 (to_out p here)) in
    let covers : length head.outputs.events ≤ length (map own_of (came_out core)) = no_longer _ _ distinct (λ p here. from_out p ((head.outputs.exactly p).0 here)) in
    omega (arith, fits, covers, length-map (came_out core) own_of, length-map head.outputs.events (λ (p : ℕ × Event). p.1), ap length head.outputs.are)
  where
    fates : AskedOutput → Fate
    fates a = fate_of core a.own a.reply

    numbers : AreNumberedFrom 0 (traced core)
    numbers = numbered_told core.counter 0 fates (outputs_of core.history) (numbered_of core.counter core.history)

    distinct : AreDistinct head.outputs.events
    distinct = order_distinct head.outputs.events (subst AreInOrder (sym head.outputs.are) head.outputs.in_order)

    to_out : (p : ℕ × Event) → IsAmong p (map own_of (came_out core)) → IsPutOut core p
    to_out p here =
        let found = out_asked fates (outputs_of core.history) p here in
        subst (λ (q : ℕ × Event). IsPutOut core q) found.own ((tells_asked core lawful found.output found.asked).0 (out_only (fates found.output) found.out))

    from_out : (p : ℕ × Event) → IsPutOut core p → IsAmong p (map own_of (came_out core))
    from_out p out =
        let found = done_asked (outputs_of core.history) p (subst (λ (events : List (ℕ × Event)). IsAmong p events) (submitted_done [] core.history) out.asked) in
        let its : IsPutOut core found.output.own = subst (λ (q : ℕ × Event). IsPutOut core q) (sym found.own) out in
        subst (λ (q : ℕ × Event). IsAmong q (map own_of (came_out core))) found.own
        (asked_out fates (outputs_of core.history) found.output found.asked (ap is_out ((tells_asked core lawful found.output found.asked).1 its)))

pub all_told : (core : CoreState) → length (outputs_of core.history) ≡ length (came_out core) + length (lost core)
all_told core =
    sym (length-map (outputs_of core.history) (traced_output core))
    ∙ sym (length-filter_both (λ (t : TracedOutput). is_out t.fate) (λ (t : TracedOutput). not (is_out t.fate)) (λ t. refl) (traced core))
