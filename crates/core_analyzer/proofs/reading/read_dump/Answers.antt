use Rattle.std.proofs.Common.{◌≡◌, None, sym, subst, ◌∙◌}
use Rattle.recording_bytes.proofs.FixedEvents.{AreBytes}
use Rattle.core_analyzer.specs.Dumps.{IsSpelling}
use Rattle.core_analyzer.specs.DumpFields.{first_wrong}
use Rattle.core_analyzer.proofs.DumpSpelled.{read-spells, spelled-read, spelled-right}
use Rattle.core_analyzer.proofs.reading.read_dump.Goals as goal

pub returns-in-Some-clause-only : goal.returns-in-Some-clause-only
returns-in-Some-clause-only c dump s =
    let right = spelled-right c.args.bytes.now dump s in
    let wrong = sym c.first_wrong.ensures ∙ c.in-Some.is in
    absurd (cc)

pub returns-clause-ok : goal.returns-clause-ok
returns-clause-ok c =
    let are : AreBytes c.args.bytes.now = record { below = λ i. (c.type_inv.bytes i).fits } in
    let none : first_wrong c.args.bytes.now ≡ None = sym c.first_wrong.ensures ∙ c.in_default.is in
    subst (IsSpelling c.args.bytes.now) (sym c.in_ok-read_right.ensures) (read-spells c.args.bytes.now are none)

pub returns-clause-only : goal.returns-clause-only
returns-clause-only c dump s = c.in_ok-read_right.ensures ∙ spelled-read c.args.bytes.now dump s
