use Rattle.std.proofs.Common.{rules, arith, ◌≡◌, ◌==◌, [], ◌∷◌, ◌++◌, Some, None, length, lit<}
use Rattle.std.specs.List.{slice_split}
use Rattle.std.proofs.lemmas.List.{length_push}
use Rattle.std.proofs.lemmas.Iterator.Splits.{YieldsList-from_str_split}
use Rattle.std.proofs.lemmas.Iterator.Consumers.{YieldsList-turn, YieldsList-end}
use Rattle.option_values.specs.Lists.{named_of, recordings_of}
use Rattle.option_values.proofs.Loops.{ends, goes-on, stops}
use Rattle.option_values.proofs.recordings.read_recordings.Goals as goal

pub returns-in_err-recording : goal.returns-in_err-recording
returns-in_err-recording c =
    let turn = YieldsList-turn (YieldsList-from_str_split 44 c.args.text.now (lit< tt) (cc) (cc) (cc)) c.loop-part.yielded _ c.loop-part.yielded_by _ _ c.in-Some.part c.in-Some.is c.next.ensures.steps in
    let refused = λ (none : named_of c.in-Some.part.now ≡ None). stops named_of (slice_split (λ b. b == 44) c.args.text.now) c.loop-part.recordings.items (length c.loop-part.yielded) (recordings_of c.args.text.now) c.in-Some.part.now c.loop-part.invariant.2 turn none in
    let h = c.from_residual.ensures in
    let k = c.in_err-recording.ensures in
    search (rules, refused)

pub loop-part-preserved : goal.loop-part-preserved
loop-part-preserved c =
    let turn = YieldsList-turn (YieldsList-from_str_split 44 c.args.text.now (lit< tt) (cc) (cc) (cc)) c.loop-part.yielded _ c.loop-part.yielded_by _ _ c.in-Some.part c.in-Some.is c.next.ensures.steps in
    let some : named_of c.in-Some.part.now ≡ Some c.in_ok-recording.recording = search rules in
    let items : c.push.new.self.items ≡ c.loop-part.recordings.items ++ c.in_ok-recording.recording ∷ [] = search rules in
    let more = goes-on named_of (slice_split (λ b. b == 44) c.args.text.now) c.loop-part.recordings.items (length c.loop-part.yielded) (recordings_of c.args.text.now) c.in-Some.part.now c.in_ok-recording.recording c.loop-part.invariant.2 turn some in
    (tt, tt, rw (items, length_push c.loop-part.yielded c.in-Some.part) more)

pub returns : goal.returns
returns c =
    let end = YieldsList-end (YieldsList-from_str_split 44 c.args.text.now (lit< tt) (cc) (cc) (cc)) c.loop-part.yielded _ c.loop-part.yielded_by _ _ c.in-None.is c.next.ensures.steps in
    let all = ends named_of (slice_split (λ b. b == 44) c.args.text.now) c.loop-part.recordings.items (length c.loop-part.yielded) (recordings_of c.args.text.now) c.loop-part.invariant.2 (omega (arith, end.1)) in
    rw (c.of.ensures) all
