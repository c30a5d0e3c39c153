-- The headline, of every core.
use Rattle.std.proofs.Common.{inl, inr, ◌≡◌, ◌<◌, ◌≤◌, ◌⊎◌, ℕ, Bool, true, false, List, [], ◌∷◌, ◌++◌, refl, ap, ◌∙◌, sym, subst, append_assoc, arith}
use Rattle.std.specs.Prelude.{Some, nat_le, nat_lt, IsTrue}
use Rattle.std.proofs.lemmas.Bool.Decides.{nat_tests}
use Rattle.rtio_types.specs.declared.event.Event.{Event}
use Rattle.rtio_types.specs.declared.request.Request.TheVariants as ask
use Rattle.rtio_types.specs.declared.request.Reply.{Reply}
use Rattle.rtio_types.specs.declared.request.Reply.TheVariants as answer
use Rattle.rtio_types.specs.Board.{replaces}
use Rattle.rtio_types.specs.Time.{cycle_of}
use Rattle.sed_lanes.specs.Heads.{is_earlier}
use Rattle.sed_lanes.specs.Lanes.{LanesState}
use Rattle.sed_lanes.specs.Judged.{Judged}
use Rattle.sed_lanes.specs.Verdict.{Verdict, Underflow, Lane, Sequence, Undecided, verdict}
use Rattle.sed_lanes.proofs.InOrder.{rising-part}
use Rattle.sed_lanes.proofs.Numbers.{AreNumbered, numbered}
use Rattle.sed_lanes.proofs.RisingLanes.{no-underflow}
use Rattle.sed_lanes.proofs.Uniques.{IsRising}
use Rattle.output_merge.specs.declared.group.Part.{Part}
use Rattle.output_merge.specs.declared.group.Part.TheVariants.{Keeper, Overridden, Collision}
use Rattle.output_merge.specs.Busy.{busy, busy_behind, put_out, put_out_behind}
use Rattle.output_merge.specs.Groups.{collisions, is_collision, is_keeper, is_logged_before, is_put_out_before, keepers, part_of}
use Rattle.output_merge.specs.Live.{live, out_of_sequence}
use Rattle.output_merge.specs.Outputs.{logged, put_out_by, up_to}
use Rattle.output_merge.proofs.LiveHeld.{live-in-turn}
use Rattle.rtio_core.specs.declared.data.Act.{Act}
use Rattle.rtio_core.specs.declared.data.Act.TheVariants.{Asked}
use Rattle.rtio_core.specs.declared.data.Config.{Config}
use Rattle.rtio_core.specs.declared.data.Entry.{Entry}
use Rattle.rtio_core.specs.Core.{CoreState}
use Rattle.rtio_core.specs.Entries.{judged_history, lane_steps}
use Rattle.rtio_core.specs.Lawful.{IsLawful, IsLawfulAfter, MayFollow}
use Rattle.rtio_core.specs.Reply.{lanes_at, reply_to_event, verdict_at}
use Rattle.rtio_core.proofs.Laws.{IsLawfulAfter-front}
use Rattle.rtio_headline.specs.Headline.{Headline, IsAmong, IsNamed, IsNowhere, IsOverridden, PutsOut, UnderflowsExactly, done_output, is_output_act, outputs_asked, submitted}
use Rattle.rtio_headline.proofs.Grouped.{IsFollowed, keeper-last, overridden-followed, same-cycle}
use Rattle.rtio_headline.proofs.Kept.{busy-among, keepers-rise, not-put_out-and-busy, put_out-among, put_out-or-busy, put_out-rise}
use Rattle.rtio_headline.proofs.Late.{not-submitted}
use Rattle.rtio_headline.proofs.Lists.{among-filter, among-sorted, filter-among, in-order, sorted-among}
use Rattle.rtio_headline.proofs.Placed.{IsPart, cleared-placed, later-not-cleared, live-not-cleared, live-not-sequence, live-placed, placed-parts, sequence-placed}
use Rattle.rtio_headline.proofs.Submitting.{agrees, last-may, placed_in}

-- an event of a cycle up to the counter passes
reached-test : (counter : ℕ) (p : ℕ × Event) → cycle_of p.1 ≤ counter → nat_le (cycle_of p.1) counter ≡ true
reached-test counter p le = grind (arith, nat_tests, le)

test-reached : (counter : ℕ) (p : ℕ × Event) → nat_le (cycle_of p.1) counter ≡ true → cycle_of p.1 ≤ counter
test-reached counter p is = grind (arith, nat_tests, is)

up_to-among : (counter : ℕ) (p : ℕ × Event) (xs : List (ℕ × Event)) → IsAmong p (up_to counter xs) → IsAmong p xs × (cycle_of p.1 ≤ counter)
up_to-among counter p xs here =
    let h = filter-among (λ q. nat_le (cycle_of q.1) counter) p xs here in (h.0, test-reached counter p h.1)

among-up_to : (counter : ℕ) (p : ℕ × Event) (xs : List (ℕ × Event)) → IsAmong p xs → cycle_of p.1 ≤ counter → IsAmong p (up_to counter xs)
among-up_to counter p xs here le = among-filter (λ q. nat_le (cycle_of q.1) counter) p xs here (reached-test counter p le)

-- the parts of the live events
keeper-part : (events : List (ℕ × Event)) (p : ℕ × Event) → IsAmong p (keepers events) → IsAmong p events × (part_of events p ≡ Keeper)
keeper-part events p here =
    let h = filter-among (λ q. is_keeper (part_of events q)) p events (sorted-among is_put_out_before p _ here) in (h.0, by (part_of events p) h.1)
  where
    by : (part : Part) → is_keeper part ≡ true → part ≡ Keeper
    by Keeper is = refl
    by Overridden is = absurd (cc)
    by Collision is = absurd (cc)

part-keeper : (events : List (ℕ × Event)) (p : ℕ × Event) → IsAmong p events → part_of events p ≡ Keeper → IsAmong p (keepers events)
part-keeper events p here is =
    among-sorted is_put_out_before p _ (among-filter (λ q. is_keeper (part_of events q)) p events here (ap is_keeper is))

collision-part : (events : List (ℕ × Event)) (p : ℕ × Event) → IsAmong p (collisions events) → part_of events p ≡ Collision
collision-part events p here =
    by (part_of events p) (filter-among (λ q. is_collision (part_of events q)) p events (sorted-among is_logged_before p _ here)).1
  where
    by : (part : Part) → is_collision part ≡ true → part ≡ Collision
    by Keeper is = absurd (cc)
    by Overridden is = absurd (cc)
    by Collision is = refl

part-collision : (events : List (ℕ × Event)) (p : ℕ × Event) → IsAmong p events → part_of events p ≡ Collision → IsAmong p (collisions events)
part-collision events p here is =
    among-sorted is_logged_before p _ (among-filter (λ q. is_collision (part_of events q)) p events here (ap is_collision is))

-- what is known of the lanes' history and of what was submitted
record Given (holds : List ℕ) (judged : List Judged) (events : List (ℕ × Event)) : Type 0 where
  same : events ≡ placed_in judged
  numbers : AreNumbered 0 judged
  rise : IsRising is_earlier (live judged)

-- ---- what is put out

put_out-is : (holds : List ℕ) (judged : List Judged) (counter : ℕ) (events : List (ℕ × Event)) → Given holds judged events → (p : ℕ × Event) → IsAmong p (put_out_by holds judged counter)
    → IsAmong p events × (cycle_of p.1 ≤ counter) × (¬ IsOverridden events (logged holds judged counter) p) × (¬ IsNamed (logged holds judged counter) p)
put_out-is holds judged counter events g p here =
    let reached = up_to-among counter p (put_out holds (keepers (live judged))) here in
    let kept : IsAmong p (keepers (live judged)) = put_out-among holds [] (keepers (live judged)) p reached.0 in
    let part = keeper-part (live judged) p kept in (
      subst (IsAmong p) (sym g.same) (live-placed judged p part.0),
      reached.1,
      λ o. overridden part.0 part.1 o,
      λ named. unnamed reached.0 part.0 part.1 named,
    )
  where
    late : (q : ℕ × Event) → IsAmong p (live judged) → part_of (live judged) p ≡ Keeper → IsTrue (replaces p.1.channel) → p.0 < q.0 → q.1.channel ≡ p.1.channel → q.1.stamp ≡ p.1.stamp → ¬ IsAmong q (out_of_sequence judged) → IsPart judged q → ⊥
    late q alive keeps replacing less channel stamp in_sequence (inl there) =
        let most : q.0 ≤ p.0 = keeper-last (live judged) p q g.rise there replacing keeps channel stamp in omega (arith, less, most)
    late q alive keeps replacing less channel stamp in_sequence (inr (inl gone)) =
        later-not-cleared 0 judged p q g.numbers alive gone less (sym (same-cycle p q stamp))
    late q alive keeps replacing less channel stamp in_sequence (inr (inr out)) = in_sequence out

    overridden : IsAmong p (live judged) → part_of (live judged) p ≡ Keeper → IsOverridden events (logged holds judged counter) p → ⊥
    overridden alive keeps o =
        late o.other alive keeps o.replacing o.later o.channel o.stamp o.in_sequence
        (placed-parts judged o.other (subst (IsAmong o.other) g.same o.asked))

    unnamed : IsAmong p (put_out holds (keepers (live judged))) → IsAmong p (live judged) → part_of (live judged) p ≡ Keeper → IsNamed (logged holds judged counter) p → ⊥
    unnamed out alive keeps (inl there) = live-not-sequence 0 judged p g.numbers alive there
    unnamed out alive keeps (inr (inl there)) =
        let clash : Keeper ≡ Collision = sym keeps ∙ collision-part (live judged) p (up_to-among counter p (collisions (live judged)) there).0 in absurd (cc)
    unnamed out alive keeps (inr (inr (inl there))) =
        not-put_out-and-busy holds [] (keepers (live judged)) p (keepers-rise (live judged) g.rise) out
        (sorted-among is_logged_before p (busy_behind holds [] (keepers (live judged))) (up_to-among counter p (busy holds (keepers (live judged))) there).0)
    unnamed out alive keeps (inr (inr (inr there))) = live-not-cleared 0 judged p g.numbers alive there

is-put_out : (holds : List ℕ) (judged : List Judged) (counter : ℕ) (events : List (ℕ × Event)) → Given holds judged events → (p : ℕ × Event)
    → IsAmong p events → cycle_of p.1 ≤ counter → ¬ IsOverridden events (logged holds judged counter) p → ¬ IsNamed (logged holds judged counter) p → IsAmong p (put_out_by holds judged counter)
is-put_out holds judged counter events g p here reached kept unnamed = by (placed-parts judged p (subst (IsAmong p) g.same here))
  where
    of-keeper : IsAmong p (put_out_behind holds [] (keepers (live judged))) ⊎ IsAmong p (busy_behind holds [] (keepers (live judged))) → IsAmong p (put_out_by holds judged counter)
    of-keeper (inl out) = among-up_to counter p (put_out holds (keepers (live judged))) out reached
    of-keeper (inr held) = absurd (unnamed (inr (inr (inl (among-up_to counter p (busy holds (keepers (live judged))) (among-sorted is_logged_before p (busy_behind holds [] (keepers (live judged))) held) reached)))))

    followed : IsFollowed (live judged) p → IsOverridden events (logged holds judged counter) p
    followed f = record {
      replacing = f.replacing;
      other = f.other;
      asked = subst (IsAmong f.other) (sym g.same) (live-placed judged f.other f.among);
      in_sequence = λ out. live-not-sequence 0 judged f.other g.numbers f.among out;
      later = f.later;
      channel = f.channel;
      stamp = f.stamp;
    }

    of-part : IsAmong p (live judged) → (part : Part) → part_of (live judged) p ≡ part → IsAmong p (put_out_by holds judged counter)
    of-part alive Keeper is = of-keeper (put_out-or-busy holds [] (keepers (live judged)) p (part-keeper (live judged) p alive is))
    of-part alive Overridden is = absurd (kept (followed (overridden-followed (live judged) p g.rise alive is)))
    of-part alive Collision is = absurd (unnamed (inr (inl (among-up_to counter p (collisions (live judged)) (part-collision (live judged) p alive is) reached))))

    by : IsPart judged p → IsAmong p (put_out_by holds judged counter)
    by (inl alive) = of-part alive (part_of (live judged) p) refl
    by (inr (inl gone)) = absurd (unnamed (inr (inr (inr gone))))
    by (inr (inr out)) = absurd (unnamed (inl out))

given : (core : CoreState) → IsLawful core.config core.history → Given core.config.holds (judged_history core.config core.history) (submitted core.history)
given core h = record {
  same = (agrees core.config core.history h).same;
  numbers = numbered core.config.lanes core.config.depth (lane_steps core.history);
  rise = (live-in-turn core.config.lanes core.config.depth (lane_steps core.history)).rise;
}

puts-out : (core : CoreState) → IsLawful core.config core.history → PutsOut core
puts-out core h =
    let judged : List Judged = judged_history core.config core.history in
    let holds : List ℕ = core.config.holds in
    let g = given core h in
    record {
      events = put_out_by holds judged core.counter;
      are = refl;
      in_order =
          in-order (put_out_by holds judged core.counter)
          (rising-part is_put_out_before _ (put_out holds (keepers (live judged))) (put_out-rise holds [] (keepers (live judged)) (keepers-rise (live judged) g.rise)));
      exactly = λ p. (
        λ here.
            let is = put_out-is holds judged core.counter (submitted core.history) g p here in
            record { asked = is.0; reached = is.1; kept = is.2; unnamed = is.3 },
        λ is. is-put_out holds judged core.counter (submitted core.history) g p is.asked is.reached is.kept is.unnamed,
      );
    }

-- ---- what came too late

late-is : (s : LanesState) (e : Event) (counter : ℕ) → cycle_of e ≤ counter → verdict s e counter ≡ Underflow
late-is s e counter le = let is : nat_le (cycle_of e) counter ≡ true = grind (arith, nat_tests, le) in rw is refl

late-reply : (v : Verdict) (reply : Reply) → reply_to_event v ≡ Some reply → reply ≡ answer.Underflow → v ≡ Underflow
late-reply Underflow reply is late = refl
late-reply (Lane k) reply is late = absurd (cc)
late-reply Sequence reply is late = absurd (cc)
late-reply Undecided reply is late = absurd (cc)

reply-late : (v : Verdict) (reply : Reply) → reply_to_event v ≡ Some reply → v ≡ Underflow → reply ≡ answer.Underflow
reply-late v reply is late = let right : reply_to_event v ≡ Some answer.Underflow = ap reply_to_event late in cc

reached-by : (s : LanesState) (e : Event) (counter : ℕ) → verdict s e counter ≡ Underflow → cycle_of e ≤ counter
reached-by s e counter is = by (nat_lt counter (cycle_of e)) refl
  where
    by : (b : Bool) → nat_lt counter (cycle_of e) ≡ b → cycle_of e ≤ counter
    by true less = let early : counter < cycle_of e = grind (arith, nat_tests, less) in absurd (no-underflow s e counter early is)
    by false more = grind (arith, nat_tests, more)

-- what the log names was placed
named-placed : (holds : List ℕ) (judged : List Judged) (counter : ℕ) (p : ℕ × Event) → IsNamed (logged holds judged counter) p → IsAmong p (placed_in judged)
named-placed holds judged counter p (inl there) = sequence-placed judged p there
named-placed holds judged counter p (inr (inl there)) =
    live-placed judged p
    (filter-among (λ q. is_collision (part_of (live judged) q)) p (live judged)
    (sorted-among is_logged_before p _ (up_to-among counter p (collisions (live judged)) there).0)).0
named-placed holds judged counter p (inr (inr (inl there))) =
    live-placed judged p
    (keeper-part (live judged) p
    (busy-among holds [] (keepers (live judged)) p
    (sorted-among is_logged_before p (busy_behind holds [] (keepers (live judged))) (up_to-among counter p (busy holds (keepers (live judged))) there).0))).0
named-placed holds judged counter p (inr (inr (inr there))) = cleared-placed judged p there

-- an output that was asked for and not submitted
nowhere : (core : CoreState) → IsLawful core.config core.history → (before rest : List Entry) (entry : Entry) → core.history ≡ before ++ entry ∷ rest → is_output_act entry.act ≡ true
    → done_output (outputs_asked before) entry.act ≡ [] → IsNowhere core (outputs_asked before)
nowhere core h before rest entry is asks none = record {
  put_out = λ e out. gone (outputs_asked before, e) refl out.asked;
  named = λ e there.
      gone (outputs_asked before, e) refl
      (subst (IsAmong (outputs_asked before, e)) (sym (agrees core.config core.history h).same)
      (named-placed core.config.holds (judged_history core.config core.history) core.counter (outputs_asked before, e) there));
}
  where
    gone : (p : ℕ × Event) → p.0 ≡ outputs_asked before → IsAmong p (submitted core.history) → ⊥
    gone p number here = not-submitted [] before rest entry p asks none number (subst (λ (l : List Entry). IsAmong p (submitted l)) is here)

underflows-exactly : (core : CoreState) (before : List Entry) (chair : ℕ) (act : Act) → MayFollow core.config before chair act
    → (is_output_act act ≡ true → done_output (outputs_asked before) act ≡ [] → IsNowhere core (outputs_asked before)) → UnderflowsExactly core before act
underflows-exactly core before chair (Asked (ask.Out e) reply at) may gone = (
  (
    λ late. reached-by (lanes_at core.config before at) e at (late-reply (verdict_at core.config before e at) reply may.1 late),
    λ le. reply-late (verdict_at core.config before e at) reply may.1 (late-is (lanes_at core.config before at) e at le),
  ),
  λ late. gone refl (ap (λ (r : Reply). done_output (outputs_asked before) (Asked (ask.Out e) r at)) late),
)
underflows-exactly core before chair act may gone = tt

-- an entry of a lawful history may follow those before it
may-follow : (config : Config) (history before rest : List Entry) (entry : Entry) → IsLawfulAfter config [] history → history ≡ before ++ entry ∷ rest → MayFollow config before entry.chair entry.act
may-follow config history before rest entry lawful is =
    last-may config [] before entry
    (IsLawfulAfter-front config [] (before ++ entry ∷ []) rest (subst (IsLawfulAfter config []) (is ∙ sym (append_assoc before (entry ∷ []) rest)) lawful))

pub headline : (core : CoreState) → IsLawful core.config core.history → Headline core
headline core h = record {
  outputs = puts-out core h;
  underflows = λ before rest entry is. underflows-exactly core before entry.chair entry.act (may-follow core.config core.history before rest entry h is) (nowhere core h before rest entry is);
}
