-- In a lawful history each output that was asked for got the right reply.
use Rattle.std.proofs.Common.{◌≡◌, ◌≢◌, ℕ, ◌*◌, ◌≤◌, ◌<◌, ◌⊎◌, inl, inr, Bool, true, false, List, [], ◌∷◌, ◌++◌, refl, sym, ap, subst, ◌∙◌, arith}
use Rattle.std.specs.Prelude.{◌↔◌, ℤ, pos, negsuc, ◌-ℤ◌, ◌<ℤ◌, nat_le, Option, Some, None}
use Rattle.std.proofs.lemmas.Bool.{true≢false}
use Rattle.std.proofs.lemmas.Bool.Decides.{leb_tells}
use Rattle.std.proofs.lemmas.Int.{ints}
use Rattle.rtio_types.specs.declared.event.Event.{Event}
use Rattle.rtio_types.specs.declared.request.Reply.{Reply}
use Rattle.rtio_types.specs.declared.request.Reply.TheVariants as answer
use Rattle.rtio_types.specs.declared.request.Request.TheVariants as ask
use Rattle.rtio_types.specs.Time.{cycle_of, cycle_of_stamp}
use Rattle.sed_lanes.specs.Lanes.{LanesState}
use Rattle.sed_lanes.specs.Verdict.{Verdict, Underflow, Lane, Sequence, Undecided, verdict}
use Rattle.sed_lanes.proofs.RisingLanes.{no-underflow}
use Rattle.rtio_core.specs.declared.data.Act.{Act}
use Rattle.rtio_core.specs.declared.data.Act.TheVariants.{Asked}
use Rattle.rtio_core.specs.declared.data.Config.{Config}
use Rattle.rtio_core.specs.declared.data.Entry.{Entry}
use Rattle.rtio_core.specs.Core.{CoreState}
use Rattle.rtio_core.specs.Lawful.{IsLawful, IsLawfulAfter, MayFollow}
use Rattle.rtio_core.specs.Reply.{lanes_at, reply_to_event}
use Rattle.rtio_headline.specs.Headline.{outputs_asked}
use Rattle.trace_fates.specs.declared.data.Fate.TheVariants as fate
use Rattle.trace_fates.specs.Asked.{AskedOutput, IsAsked, output_by, outputs_behind}
use Rattle.trace_fates.specs.Fates.{fate_if, fate_of, is_late, traced_output}
use Rattle.trace_fates.specs.Laws.{TellsLate}
use Rattle.trace_fates.specs.Slack.{slack_of}
use Rattle.trace_fates.proofs.Numbers.{split_asked}

-- it is done before its cycle, or came too late
abbrev pub IsRightFor : Event → ℕ → Reply → Type 0
IsRightFor e at reply =
    ((reply ≡ answer.Done) × (at < cycle_of e)) ⊎ ((reply ≡ answer.Underflow) × (cycle_of e ≤ at))

abbrev pub IsAnsweredRight : AskedOutput → Type 0
IsAnsweredRight a = IsRightFor a.own.1 a.at a.reply

late_reply : (v : Verdict) (reply : Reply) → v ≡ Underflow → reply_to_event v ≡ Some reply → reply ≡ answer.Underflow
late_reply Underflow reply is right = let same : answer.Underflow ≡ reply = cc in sym same
late_reply (Lane k) reply is right = absurd (cc)
late_reply Sequence reply is right = absurd (cc)
late_reply Undecided reply is right = absurd (cc)

done_reply : (v : Verdict) (reply : Reply) → v ≢ Underflow → reply_to_event v ≡ Some reply → reply ≡ answer.Done
done_reply Underflow reply not right = absurd (not refl)
done_reply (Lane k) reply not right = let same : answer.Done ≡ reply = cc in sym same
done_reply Sequence reply not right = let same : answer.Done ≡ reply = cc in sym same
done_reply Undecided reply not right = absurd (cc)

right_reply : (s : LanesState) (e : Event) (at : ℕ) (reply : Reply) → reply_to_event (verdict s e at) ≡ Some reply → IsRightFor e at reply
right_reply s e at reply right = by (leb_tells (cycle_of e) at)
  where
    by : ((nat_le (cycle_of e) at ≡ true) × (cycle_of e ≤ at)) ⊎ ((nat_le (cycle_of e) at ≡ false) × (at < cycle_of e)) → IsRightFor e at reply
    by (inl (is, le)) = inr (late_reply (verdict s e at) reply (rw is refl) right, le)
    by (inr (is, lt)) = inl (done_reply (verdict s e at) reply (no-underflow s e at lt) right, lt)

right_act : (config : Config) (before : List Entry) (chair n : ℕ) (act : Act) → MayFollow config before chair act → (a : AskedOutput) → IsAsked a (output_by n act) → IsAnsweredRight a
right_act config before chair n (Asked (ask.Out e) reply at) may a (inl same) =
    subst IsAnsweredRight (sym same) (right_reply (lanes_at config before at) e at reply may.1)
right_act config before chair n (Asked (ask.Out e) reply at) may a (inr there) = absurd there
right_act config before chair n act may a here = absurd here

pub answered_right : (config : Config) (before rest : List Entry) → IsLawfulAfter config before rest → (a : AskedOutput) → IsAsked a (outputs_behind before rest) → IsAnsweredRight a
answered_right config before [] lawful a here = absurd here
answered_right config before (entry ∷ rest) lawful a here =
    by (split_asked a (output_by (outputs_asked before) entry.act) (outputs_behind (before ++ entry ∷ []) rest) here) (answered_right config (before ++ entry ∷ []) rest lawful.1 a)
  where
    by : IsAsked a (output_by (outputs_asked before) entry.act) ⊎ IsAsked a (outputs_behind (before ++ entry ∷ []) rest)
        → (IsAsked a (outputs_behind (before ++ entry ∷ []) rest) → IsAnsweredRight a)
        → IsAnsweredRight a
    by (inl one) on = right_act config before entry.chair (outputs_asked before) entry.act lawful.0 a one
    by (inr other) on = on other

-- ---- too late

late_only : (l s c k b : Bool) (by : Option ℕ) (r : Bool) → fate_if l s c k b by r ≡ fate.Late → l ≡ true
late_only true s c k b by r is = refl
late_only false true c k b by r is = let no : fate.Sequence ≡ fate.Late = is in absurd (cc)
late_only false false true k b by r is = let no : fate.Cleared ≡ fate.Late = is in absurd (cc)
late_only false false false true b by r is = let no : fate.Collided ≡ fate.Late = is in absurd (cc)
late_only false false false false true by r is = let no : fate.Busy ≡ fate.Late = is in absurd (cc)
late_only false false false false false (Some n) r is = let no : fate.Overridden n ≡ fate.Late = is in absurd (cc)
late_only false false false false false None false is = let no : fate.Pending ≡ fate.Late = is in absurd (cc)
late_only false false false false false None true is = let no : fate.CameOut ≡ fate.Late = is in absurd (cc)

-- a cycle is reached just where the stamp is less than a cycle above what the counter reads
reached_slack : (stamp : ℤ) (at : ℕ) → cycle_of_stamp stamp ≤ at → (stamp -ℤ pos (8 * at)) <ℤ pos 8
reached_slack (pos n) at le = omega (arith, ints)
reached_slack (negsuc n) at le = omega (arith, ints)

slack_reached : (stamp : ℤ) (at : ℕ) → (stamp -ℤ pos (8 * at)) <ℤ pos 8 → cycle_of_stamp stamp ≤ at
slack_reached (pos n) at less = omega (arith, ints)
slack_reached (negsuc n) at less = omega (arith, ints)

pub tells_late : (core : CoreState) → IsLawful core.config core.history → TellsLate core
tells_late core lawful a here = by (answered_right core.config [] core.history lawful a here)
  where
    by : IsAnsweredRight a → (fate_of core a.own a.reply ≡ fate.Late) ↔ (slack_of (traced_output core a) <ℤ pos 8)
    by (inl (done, before)) = (
      (λ is. let no : is_late answer.Done ≡ true = sym (ap is_late done) ∙ late_only _ _ _ _ _ _ _ is in absurd (true≢false (sym no))),
      (λ less. let le : cycle_of a.own.1 ≤ a.at = slack_reached a.own.1.stamp a.at less in absurd (omega (arith, le, before))),
    )
    by (inr (late, le)) = (
      (λ is. reached_slack a.own.1.stamp a.at le),
      (λ less. ap (λ (reply : Reply). fate_of core a.own reply) late),
    )
