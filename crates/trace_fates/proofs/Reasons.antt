-- Each fate is the first reason that holds of an output.
use Rattle.std.proofs.Common.{◌≡◌, ℕ, ◌≤◌, ◌<◌, Bool, true, false, List, [], ◌∷◌, ◌++◌, ◌⊎◌, inl, inr, Option, Some, None, refl, sym, ap, ◌∙◌, arith}
use Rattle.std.specs.Prelude.{if◌then◌else◌, nat_le}
use Rattle.std.specs.Bool.{Decides}
use Rattle.std.proofs.lemmas.Bool.{true≢false}
use Rattle.std.proofs.lemmas.Bool.Decides.{leb_tells}
use Rattle.rtio_types.specs.declared.event.Event.{Event}
use Rattle.rtio_types.specs.declared.request.Reply.{Reply}
use Rattle.rtio_types.specs.declared.request.Reply.TheVariants as answer
use Rattle.rtio_types.specs.declared.request.Request.TheVariants as ask
use Rattle.rtio_types.specs.Time.{cycle_of}
use Rattle.output_merge.specs.Outputs.{LogLists}
use Rattle.rtio_core.specs.declared.data.Act.{Act}
use Rattle.rtio_core.specs.declared.data.Act.TheVariants.{Asked}
use Rattle.rtio_core.specs.declared.data.Entry.{Entry}
use Rattle.rtio_core.specs.Core.{CoreState}
use Rattle.rtio_core.specs.Lawful.{IsLawful}
use Rattle.rtio_headline.specs.Headline.{IsAmong, IsPutOut, done_output, outputs_asked, submitted, submitted_behind}
use Rattle.trace_fates.specs.declared.data.Fate.TheVariants.{CameOut}
use Rattle.trace_fates.specs.Fates.{fate_if, is_late, overridden_by, overrides}
use Rattle.trace_fates.specs.Reasons.{HasReason, TellsWhy, WasFirstOverriddenBy, WasOverridden, log_of}
use Rattle.trace_fates.proofs.Numbers.{low_submitted, no_less}
use Rattle.trace_fates.proofs.Telling.{decides_listed, decides_overrides, none_overrides, not_of, overriding, tells_asked}

-- ---- the first one that overrides

-- no number along a list is less than one before it
abbrev Rise : List (ℕ × Event) → Type 0
Rise [] = Unit {0}
Rise (p ∷ rest) = ((q : ℕ × Event) → IsAmong q rest → p.0 ≤ q.0) × Rise rest

rise_act : (n : ℕ) (act : Act) (rest : List (ℕ × Event)) → ((q : ℕ × Event) → IsAmong q rest → n ≤ q.0) → Rise rest → Rise (done_output n act ++ rest)
rise_act n (Asked (ask.Out e) answer.Done at) rest low rise = (low, rise)
rise_act n act rest low rise = rise

rises : (before rest : List Entry) → Rise (submitted_behind before rest)
rises before [] = tt
rises before (entry ∷ rest) =
    rise_act (outputs_asked before) entry.act (submitted_behind (before ++ entry ∷ []) rest)
    (λ q here. omega (arith, no_less before entry, low_submitted (before ++ entry ∷ []) rest q here))
    (rises (before ++ entry ∷ []) rest)

-- of the events that override one this is the first
record IsFirst (log : LogLists) (events : List (ℕ × Event)) (p : ℕ × Event) (n : ℕ) : Type 0 where
  pub other : ℕ × Event
  pub among : IsAmong other events
  pub over : overrides log p other ≡ true
  pub number : other.0 ≡ n
  pub least : (q : ℕ × Event) → IsAmong q events → overrides log p q ≡ true → n ≤ q.0

first_over : (log : LogLists) (events : List (ℕ × Event)) (p : ℕ × Event) (n : ℕ) → Rise events → overridden_by log events p ≡ Some n → IsFirst log events p n
first_over log [] p n rise is = let no : None ≡ Some n = is in absurd (cc)
first_over log (q ∷ rest) p n rise is = by (overrides log p q) refl is (first_over log rest p n rise.1)
  where
    by : (b : Bool) → overrides log p q ≡ b → (if b then Some q.0 else overridden_by log rest p) ≡ Some n
        → (overridden_by log rest p ≡ Some n → IsFirst log rest p n)
        → IsFirst log (q ∷ rest) p n
    by true e found on =
        let number : q.0 ≡ n = (let same : Some q.0 ≡ Some n = found in cc) in
        record { other = q; among = inl refl; over = e; number = number; least = least number }
      where
        least : q.0 ≡ n → (r : ℕ × Event) → (r ≡ q) ⊎ IsAmong r rest → overrides log p r ≡ true → n ≤ r.0
        least number r (inl same) over = omega (arith, number, ap (λ (x : ℕ × Event). x.0) same)
        least number r (inr there) over = omega (arith, number, rise.0 r there)
    by false e found on =
        let deeper = on found in
        record { other = deeper.other; among = inr deeper.among; over = deeper.over; number = deeper.number; least = least deeper.least }
      where
        least : ((r : ℕ × Event) → IsAmong r rest → overrides log p r ≡ true → n ≤ r.0)
            → (r : ℕ × Event) → (r ≡ q) ⊎ IsAmong r rest → overrides log p r ≡ true → n ≤ r.0
        least others r (inl same) over = absurd (true≢false (sym over ∙ ap (overrides log p) same ∙ e))
        least others r (inr there) over = others r there over

-- ---- the reasons

-- whether an event is overridden, and by which one first
abbrev IsOverAs : CoreState → ℕ × Event → Option ℕ → Type 0
IsOverAs core p None = ¬ WasOverridden core p
IsOverAs core p (Some n) = WasFirstOverriddenBy core p n

over_as : (core : CoreState) (p : ℕ × Event) (by : Option ℕ) → overridden_by (log_of core) (submitted core.history) p ≡ by → IsOverAs core p by
over_as core p None is = λ o.
    none_overrides (log_of core) (submitted core.history) p is o.other o.asked
    ((decides_overrides (log_of core) p o.other).1 ((((o.replacing, o.in_sequence), o.later), o.channel), o.stamp))
over_as core p (Some n) is =
    let first = first_over (log_of core) (submitted core.history) p n (rises [] core.history) is in
    record {
      over = overriding core p first.other first.among ((decides_overrides (log_of core) p first.other).0 first.over);
      number = first.number;
      first = λ o.
          first.least o.other o.asked
          ((decides_overrides (log_of core) p o.other).1 ((((o.replacing, o.in_sequence), o.later), o.channel), o.stamp));
    }

decides_late : (reply : Reply) → Decides (is_late reply) (reply ≡ answer.Underflow)
decides_late answer.Underflow = (λ _. refl, λ _. refl)
decides_late reply = (λ e. absurd (true≢false (sym e)), λ is. ap is_late is)

not_reached : (a b : ℕ) → nat_le a b ≡ false → b < a
not_reached a b is = by (leb_tells a b)
  where
    by : ((nat_le a b ≡ true) × (a ≤ b)) ⊎ ((nat_le a b ≡ false) × (b < a)) → b < a
    by (inl (e, le)) = absurd (true≢false (sym e ∙ is))
    by (inr (e, lt)) = lt

module _ (core : CoreState) (p : ℕ × Event) (reply : Reply) where
  by_tests : (l s c k b : Bool) (over : Option ℕ) (r : Bool)
      → Decides l (reply ≡ answer.Underflow)
      → Decides s (IsAmong p (log_of core).sequence)
      → Decides c (IsAmong p (log_of core).cleared)
      → Decides k (IsAmong p (log_of core).collided)
      → Decides b (IsAmong p (log_of core).busy)
      → IsOverAs core p over
      → (r ≡ false → core.counter < cycle_of p.1)
      → (fate_if l s c k b over r ≡ CameOut → IsPutOut core p)
      → HasReason core p reply (fate_if l s c k b over r)
  by_tests true s c k b over r dl ds dc dk db o later out = dl.0 refl
  by_tests false true c k b over r dl ds dc dk db o later out = (not_of false dl refl, ds.0 refl)
  by_tests false false true k b over r dl ds dc dk db o later out =
      ((not_of false dl refl, not_of false ds refl), dc.0 refl)
  by_tests false false false true b over r dl ds dc dk db o later out =
      (((not_of false dl refl, not_of false ds refl), not_of false dc refl), dk.0 refl)
  by_tests false false false false true over r dl ds dc dk db o later out =
      ((((not_of false dl refl, not_of false ds refl), not_of false dc refl), not_of false dk refl), db.0 refl)
  by_tests false false false false false (Some n) r dl ds dc dk db o later out =
      (((((not_of false dl refl, not_of false ds refl), not_of false dc refl), not_of false dk refl), not_of false db refl), o)
  by_tests false false false false false None false dl ds dc dk db o later out =
      (((((not_of false dl refl, not_of false ds refl), not_of false dc refl), not_of false dk refl), not_of false db refl), o, later refl)
  by_tests false false false false false None true dl ds dc dk db o later out = out refl

pub tells_why : (core : CoreState) → IsLawful core.config core.history → TellsWhy core
tells_why core lawful a here =
    by_tests core a.own a.reply _ _ _ _ _ _ _
    (decides_late a.reply)
    (decides_listed a.own (log_of core).sequence)
    (decides_listed a.own (log_of core).cleared)
    (decides_listed a.own (log_of core).collided)
    (decides_listed a.own (log_of core).busy)
    (over_as core a.own (overridden_by (log_of core) (submitted core.history) a.own) refl)
    (not_reached (cycle_of a.own.1) core.counter)
    (tells_asked core lawful a here).0
