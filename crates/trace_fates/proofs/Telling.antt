-- The tests tell what the headline says.
use Rattle.std.proofs.Common.{◌≡◌, ℕ, ◌≤◌, ◌<◌, Bool, true, false, List, [], ◌∷◌, ◌⊎◌, inl, inr, Option, Some, None, refl, sym, ap, subst, ◌∙◌, arith}
use Rattle.std.specs.Prelude.{◌↔◌, ℤ, nat_le, if◌then◌else◌}
use Rattle.std.proofs.lemmas.Bool.{true≢false}
use Rattle.std.proofs.lemmas.Bool.Decides.{Decides-and, Decides-or, Decides-not, Decides-like, Decides-ltb, Decides-eqb, Decides-int_eq, leb_tells}
use Rattle.std.specs.Bool.{Decides}
use Rattle.rtio_types.specs.declared.event.Event.{Event}
use Rattle.rtio_types.specs.declared.request.Reply.{Reply}
use Rattle.rtio_types.specs.declared.request.Reply.TheVariants as answer
use Rattle.rtio_types.specs.Board.{replaces}
use Rattle.rtio_types.specs.Time.{cycle_of}
use Rattle.output_merge.specs.Outputs.{LogLists}
use Rattle.rtio_core.specs.Told.{log_at}
use Rattle.rtio_core.specs.Core.{CoreState}
use Rattle.rtio_core.specs.Lawful.{IsLawful}
use Rattle.rtio_headline.specs.Headline.{IsAmong, IsNamed, IsOverridden, IsPutOut, submitted}
use Rattle.trace_fates.specs.declared.data.Fate.TheVariants.{Late, Sequence, Cleared, Collided, Busy, Overridden, Pending, CameOut}
use Rattle.trace_fates.specs.Fates.{is_event, is_same, is_listed, overrides, overridden_by, fate_if, fate_of}
use Rattle.trace_fates.specs.Laws.{TellsAsked, TellsSubmitted}
use Rattle.trace_fates.proofs.Answered.{IsAnsweredRight, answered_right}
use Rattle.trace_fates.proofs.Numbers.{done_submitted, late_not_submitted}

-- ---- the same event

event : (channel address value : ℕ) (stamp : ℤ) → Event
event c a v s = record { channel = c; address = a; value = v; stamp = s }

unfold_event : (e f : Event) → e.channel ≡ f.channel → e.address ≡ f.address → e.value ≡ f.value → e.stamp ≡ f.stamp → event e.channel e.address e.value e.stamp ≡ event f.channel f.address f.value f.stamp
unfold_event e f c a v s =
    ap (λ n. event n e.address e.value e.stamp) c
    ∙ ap (λ n. event f.channel n e.value e.stamp) a
    ∙ ap (λ n. event f.channel f.address n e.stamp) v
    ∙ ap (λ n. event f.channel f.address f.value n) s

one_event : (e f : Event) → e.channel ≡ f.channel → e.address ≡ f.address → e.value ≡ f.value → e.stamp ≡ f.stamp → e ≡ f
unfolding event
one_event e f c a v s = unfold_event e f c a v s

decides_event : (e f : Event) → Decides (is_event e f) (e ≡ f)
decides_event e f =
    Decides-like
    (is_event e f)
    (λ h. one_event e f h.0.0.0 h.0.0.1 h.0.1 h.1)
    (λ same. (((ap (λ (x : Event). x.channel) same, ap (λ (x : Event). x.address) same), ap (λ (x : Event). x.value) same), ap (λ (x : Event). x.stamp) same))
    (Decides-and _ _ (Decides-and _ _ (Decides-and _ _ (Decides-eqb e.channel f.channel) (Decides-eqb e.address f.address)) (Decides-eqb e.value f.value)) (Decides-int_eq e.stamp f.stamp))

decides_same : (p q : ℕ × Event) → Decides (is_same p q) (p ≡ q)
decides_same p q =
    Decides-like
    (is_same p q)
    (λ h. ap (λ n. (n, p.1)) h.0 ∙ ap (λ (e : Event). (q.0, e)) h.1)
    (λ same. (ap (λ (x : ℕ × Event). x.0) same, ap (λ (x : ℕ × Event). x.1) same))
    (Decides-and _ _ (Decides-eqb p.0 q.0) (decides_event p.1 q.1))

pub decides_listed : (p : ℕ × Event) (xs : List (ℕ × Event)) → Decides (is_listed p xs) (IsAmong p xs)
decides_listed p [] = (λ e. absurd (true≢false (sym e)), λ h. absurd h)
decides_listed p (q ∷ rest) = Decides-or _ _ (decides_same p q) (decides_listed p rest)

decides_reached : (a b : ℕ) → Decides (nat_le a b) (a ≤ b)
decides_reached a b = by (leb_tells a b)
  where
    by : ((nat_le a b ≡ true) × (a ≤ b)) ⊎ ((nat_le a b ≡ false) × (b < a)) → Decides (nat_le a b) (a ≤ b)
    by (inl (e, h)) = (λ _. h, λ _. e)
    by (inr (e, h)) = (λ t. absurd (true≢false (sym t ∙ e)), λ le. absurd (omega (arith, le, h)))

false_of : {P : Type 0} (b : Bool) → Decides b P → ¬ P → b ≡ false
false_of true d n = absurd (n (d.0 refl))
false_of false d n = refl

pub not_of : {P : Type 0} (b : Bool) → Decides b P → b ≡ false → ¬ P
not_of b d e p = true≢false (sym (d.1 p) ∙ e)

-- ---- overriding

-- what an override is, part by part
abbrev pub Overrides : LogLists → (p other : ℕ × Event) → Type 0
Overrides log p other =
    ((((replaces p.1.channel ≡ true) × (¬ IsAmong other log.sequence)) × (p.0 < other.0)) × (other.1.channel ≡ p.1.channel)) × (other.1.stamp ≡ p.1.stamp)

decides_true : (b : Bool) → Decides b (b ≡ true)
decides_true b = (λ e. e, λ e. e)

pub decides_overrides : (log : LogLists) (p other : ℕ × Event) → Decides (overrides log p other) (Overrides log p other)
decides_overrides log p other =
    Decides-and _ _
    (Decides-and _ _ (Decides-and _ _ (Decides-and _ _ (decides_true (replaces p.1.channel)) (Decides-not _ (decides_listed other log.sequence))) (Decides-ltb p.0 other.0)) (Decides-eqb other.1.channel p.1.channel))
    (Decides-int_eq other.1.stamp p.1.stamp)

pub none_overrides : (log : LogLists) (events : List (ℕ × Event)) (p : ℕ × Event) → overridden_by log events p ≡ None → (q : ℕ × Event) → IsAmong q events → overrides log p q ≡ true → ⊥
none_overrides log [] p none q here over = absurd here
none_overrides log (other ∷ rest) p none q here over =
    by (overrides log p other) refl none here (λ none' there. none_overrides log rest p none' q there over)
  where
    by : (b : Bool) → overrides log p other ≡ b → (if b then Some other.0 else overridden_by log rest p) ≡ None → (q ≡ other) ⊎ IsAmong q rest
        → (overridden_by log rest p ≡ None → IsAmong q rest → ⊥)
        → ⊥
    by true e none' h on = let no : Some other.0 ≡ None = none' in absurd (cc)
    by false e none' (inl same) on = true≢false (sym over ∙ ap (overrides log p) same ∙ e)
    by false e none' (inr there) on = on none' there

never_overridden : (log : LogLists) (events : List (ℕ × Event)) (p : ℕ × Event) → ((q : ℕ × Event) → IsAmong q events → overrides log p q ≡ true → ⊥) → overridden_by log events p ≡ None
never_overridden log [] p none = refl
never_overridden log (other ∷ rest) p none =
    by (overrides log p other) refl (never_overridden log rest p (λ q there. none q (inr there)))
  where
    by : (b : Bool) → overrides log p other ≡ b → overridden_by log rest p ≡ None → (if b then Some other.0 else overridden_by log rest p) ≡ None
    by true e others = absurd (none other (inl refl) e)
    by false e others = others

abbrev pub overriding : (core : CoreState) (p q : ℕ × Event) → IsAmong q (submitted core.history) → Overrides (log_at core.config core.history core.counter) p q → IsOverridden (submitted core.history) (log_at core.config core.history core.counter) p
overriding core p q among o =
    record { replacing = o.0.0.0.0; other = q; asked = among; in_sequence = o.0.0.0.1; later = o.0.0.1; channel = o.0.1; stamp = o.1 }

-- ---- the fate

out_only : (s c k b : Bool) (by : Option ℕ) (r : Bool) → fate_if false s c k b by r ≡ CameOut
    → (s ≡ false) × (c ≡ false) × (k ≡ false) × (b ≡ false) × (by ≡ None) × (r ≡ true)
out_only true c k b by r e = let e' : Sequence ≡ CameOut = e in absurd (cc)
out_only false true k b by r e = let e' : Cleared ≡ CameOut = e in absurd (cc)
out_only false false true b by r e = let e' : Collided ≡ CameOut = e in absurd (cc)
out_only false false false true by r e = let e' : Busy ≡ CameOut = e in absurd (cc)
out_only false false false false (Some n) r e = let e' : Overridden n ≡ CameOut = e in absurd (cc)
out_only false false false false None false e = let e' : Pending ≡ CameOut = e in absurd (cc)
out_only false false false false None true e = (refl, refl, refl, refl, refl, refl)

out_where : (s c k b : Bool) (by : Option ℕ) (r : Bool) → s ≡ false → c ≡ false → k ≡ false → b ≡ false → by ≡ None → r ≡ true → fate_if false s c k b by r ≡ CameOut
out_where s c k b by r es ec ek eb eby er =
    ap (λ x. fate_if false x c k b by r) es
    ∙ ap (λ x. fate_if false false x k b by r) ec
    ∙ ap (λ x. fate_if false false false x b by r) ek
    ∙ ap (λ x. fate_if false false false false x by r) eb
    ∙ ap (λ x. fate_if false false false false false x r) eby
    ∙ ap (λ x. fate_if false false false false false None x) er

pub tells_submitted : (core : CoreState) → TellsSubmitted core
tells_submitted core p here = (there, back)
  where
    there : fate_of core p answer.Done ≡ CameOut → IsPutOut core p
    there e =
        let log' = log_at core.config core.history core.counter in
        let parts = out_only (is_listed p log'.sequence) (is_listed p log'.cleared) (is_listed p log'.collided) (is_listed p log'.busy) (overridden_by log' (submitted core.history) p) (nat_le (cycle_of p.1) core.counter) e in
        record {
          asked = here;
          reached = (decides_reached (cycle_of p.1) core.counter).0 parts.5;
          kept = λ o.
              none_overrides log' (submitted core.history) p parts.4 o.other o.asked
              ((decides_overrides log' p o.other).1 ((((o.replacing, o.in_sequence), o.later), o.channel), o.stamp));
          unnamed = not_named parts.0 parts.1 parts.2 parts.3;
        }
      where
        not_named : is_listed p (log_at core.config core.history core.counter).sequence ≡ false
            → is_listed p (log_at core.config core.history core.counter).cleared ≡ false
            → is_listed p (log_at core.config core.history core.counter).collided ≡ false
            → is_listed p (log_at core.config core.history core.counter).busy ≡ false
            → IsNamed (log_at core.config core.history core.counter) p → ⊥
        not_named s c k b (inl h) = not_of _ (decides_listed p (log_at core.config core.history core.counter).sequence) s h
        not_named s c k b (inr (inl h)) = not_of _ (decides_listed p (log_at core.config core.history core.counter).collided) k h
        not_named s c k b (inr (inr (inl h))) = not_of _ (decides_listed p (log_at core.config core.history core.counter).busy) b h
        not_named s c k b (inr (inr (inr h))) = not_of _ (decides_listed p (log_at core.config core.history core.counter).cleared) c h

    back : IsPutOut core p → fate_of core p answer.Done ≡ CameOut
    back out =
        let log' = log_at core.config core.history core.counter in
        out_where _ _ _ _ _ _
        (false_of _ (decides_listed p log'.sequence) (λ h. out.unnamed (inl h)))
        (false_of _ (decides_listed p log'.cleared) (λ h. out.unnamed (inr (inr (inr h)))))
        (false_of _ (decides_listed p log'.collided) (λ h. out.unnamed (inr (inl h))))
        (false_of _ (decides_listed p log'.busy) (λ h. out.unnamed (inr (inr (inl h)))))
        (never_overridden log' (submitted core.history) p (λ q among over. out.kept (overriding core p q among ((decides_overrides log' p q).0 over))))
        ((decides_reached (cycle_of p.1) core.counter).1 out.reached)

pub tells_asked : (core : CoreState) → IsLawful core.config core.history → TellsAsked core
tells_asked core lawful a here = by (answered_right core.config [] core.history lawful a here)
  where
    by : IsAnsweredRight a → (fate_of core a.own a.reply ≡ CameOut) ↔ IsPutOut core a.own
    by (inl done) =
        subst (λ (reply : Reply). (fate_of core a.own reply ≡ CameOut) ↔ IsPutOut core a.own) (sym done.0)
        (tells_submitted core a.own (done_submitted [] core.history a here done.0))
    by (inr under) =
        subst (λ (reply : Reply). (fate_of core a.own reply ≡ CameOut) ↔ IsPutOut core a.own) (sym under.0)
        (λ e. (let e' : Late ≡ CameOut = e in absurd (cc)), λ out. absurd (late_not_submitted [] core.history a here under.0 out.asked))
