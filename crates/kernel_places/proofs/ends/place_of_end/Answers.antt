use Rattle.std.proofs.Common.{◌≡◌, true, false, Option, refl, sym, ap, ◌∙◌}
use Rattle.core_cpu.specs.Moments.{is_playing, is_ready}
use Rattle.kernel_places.specs.declared.place.Place.{Place}
use Rattle.kernel_places.proofs.Going.{going_ends, going_first, going_on, going_played, renamed}
use Rattle.kernel_places.proofs.Tail.{lined}
use Rattle.kernel_places.proofs.ends.place_of_end.Goals as goal
use Rattle.kernel_places.proofs.ends.place_of_end.Goals.{in-Some, in-None, then-plays, else-plays}

pub loop-alloc-init : goal.loop-alloc-init
loop-alloc-init c =
    let first = c.args.cpu.now in
    let lines = c.args.lines.now in
    let found : c.match-asked.end ≡ lined lines c.args.asked =
    elim c.match-asked.branch [
      | in-Some w ↦ w.end-is ∙ w.last_with_line-end.ensures ∙ ap (λ (o : Option Place). lined lines o) (sym w.in-Some.is)
      | in-None w ↦ w.end-is ∙ ap (λ (o : Option Place). lined lines o) (sym w.in-None.is)
    ]
    in
    elim c.if-plays.branch [
      | then-plays w ↦
          renamed first w.play_on.new.self c.if-plays.cpu lines c.args.asked (lined lines c.args.asked) c.match-asked.end w.cpu-is found
          (going_played first lines c.args.asked w.play_on.new.self w.play_on.result w.play_on.ensures.code w.play_on.ensures.goes w.play_on.ensures.plays)
      | else-plays w ↦
          renamed first first c.if-plays.cpu lines c.args.asked (lined lines c.args.asked) c.match-asked.end w.cpu-is found
          (going_first first lines c.args.asked (let plays : is_playing first.phase ≡ false = sym c.plays.ensures ∙ w.if-plays.false in plays))
    ]

pub loop-alloc-preserved : goal.loop-alloc-preserved
loop-alloc-preserved c =
    let first = c.args.cpu.now in
    let old = c.loop-alloc.cpu in
    let lines = c.args.lines.now in
    let ready : is_ready old.phase ≡ true = sym c.ready.ensures ∙ c.loop-alloc-test.true in
    renamed first c.step.new.self c.step.new.self lines c.args.asked _ c.last_with_line-end-in-loop-alloc.result refl c.last_with_line-end-in-loop-alloc.ensures
    (going_on first lines c.args.asked old c.step.new.self c.loop-alloc.end c.in_ok-step.field-0 c.here.result c.loop-alloc.invariant ready c.in_ok-step.ensures.code c.in_ok-step.ensures.goes c.in_ok-step.ensures.plays c.here.ensures.at c.here.ensures.root)

pub returns : goal.returns
returns c =
    going_ends c.args.cpu.now c.args.lines.now c.args.asked c.loop-alloc.cpu c.loop-alloc.end c.loop-alloc.invariant (sym c.ready.ensures ∙ c.loop-alloc-test.false)
