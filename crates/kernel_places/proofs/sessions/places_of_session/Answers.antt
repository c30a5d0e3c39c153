use Rattle.std.proofs.Common.{rules, ◌≡◌, ℕ, ◌-◌, ◌<◌, [], List, Option, sym, subst}
use Rattle.std.specs.Prelude.{◌^◌}
use Rattle.core_isa.specs.Marks.{HasOrder, Marked}
use Rattle.core_isa.specs.Runs.{Runs}
use Rattle.core_isa.specs.declared.code.Code.{Code}
use Rattle.core_cpu.specs.Standing.{Start as Beginning}
use Rattle.core_session.specs.Sessions.{Answered, replies_of}
use Rattle.kernel_places.specs.declared.place.Place.{Place}
use Rattle.kernel_places.specs.Ends.{StopsFrom, last_of}
use Rattle.kernel_places.specs.OfSessions.{beginning}
use Rattle.kernel_places.specs.Places.{AreAskedAt, AsksEach, IsAtBeginning, answered_in}
use Rattle.kernel_places.proofs.OfSessions.{answers, asks, booted, runs}
use Rattle.kernel_places.proofs.sessions.places_of_session.Goals as goal

pub places_of_run-requires : goal.places_of_run-requires
places_of_run-requires c =
    let same : c.code-accepted.result.now ≡ c.args.code.now = c.code-accepted.ensures.value in
    let start : Beginning = beginning c.args.of.now c.args.cursor c.args.units in
    let given = c.requires.session in
    let first : IsAtBeginning start c.in_ok-cpu.cpu =
    booted c.args.code.now start c.in_ok-cpu.cpu c.requires.entry.entry _ _ _ c.requires.entry.found (c.in_ok-cpu.ensures.first c.requires.entry.entry (search rules)) (search rules) (search rules) (search rules) (search rules)
    in (
      start,
      first,
      subst (λ (k : Code). AsksEach k start [] (answered_in c.args.session.now)) (sym c.in_ok-cpu.ensures.code)
          (asks c.args.code.now c.args.units c.args.of.now c.args.cursor c.args.session.now given.0 given.1 given.2 (subst HasOrder same c.code-accepted.ensures.order) (subst Marked same c.code-accepted.ensures.marked) c.requires.entry),
    )

pub returns-clause-asked : goal.returns-clause-asked
returns-clause-asked c = λ asked count s.
    let same : c.code-accepted.result.now ≡ c.args.code.now = c.code-accepted.ensures.value in
    let code : c.in_ok-cpu.cpu.code ≡ c.args.code.now = c.in_ok-cpu.ensures.code in
    let start : Beginning = beginning c.args.of.now c.args.cursor c.args.units in
    let first : IsAtBeginning start c.in_ok-cpu.cpu =
    booted c.args.code.now start c.in_ok-cpu.cpu c.requires.entry.entry _ _ _ c.requires.entry.found (c.in_ok-cpu.ensures.first c.requires.entry.entry (search rules)) (search rules) (search rules) (search rules) (search rules)
    in
    let each : AsksEach c.in_ok-cpu.cpu.code start [] (answered_in c.args.session.now) =
    subst (λ (k : Code). AsksEach k start [] (answered_in c.args.session.now)) (sym code)
    (asks c.args.code.now c.args.units c.args.of.now c.args.cursor c.args.session.now asked count s (subst HasOrder same c.code-accepted.ensures.order) (subst Marked same c.code-accepted.ensures.marked) c.requires.entry)
    in
    subst (λ (l : List Answered). AreAskedAt c.args.code.now start [] l c.in_ok-places.places.asked.items)
    (answers c.args.code.now c.args.units c.args.of.now c.args.cursor c.args.session.now asked count s)
    (subst (λ (k : Code). AreAskedAt k start [] (answered_in c.args.session.now) c.in_ok-places.places.asked.items) code
    (c.in_ok-places.ensures.asked start first each))

pub returns-clause-end : goal.returns-clause-end
returns-clause-end c = λ seeks asked count s short.
    let same : c.code-accepted.result.now ≡ c.args.code.now = c.code-accepted.ensures.value in
    let code : c.in_ok-cpu.cpu.code ≡ c.args.code.now = c.in_ok-cpu.ensures.code in
    let start : Beginning = beginning c.args.of.now c.args.cursor c.args.units in
    let lines : List ℕ = c.args.lines.now in
    let places = c.in_ok-places.places in
    let last : Option Place = last_of places.asked.items in
    let first : IsAtBeginning start c.in_ok-cpu.cpu =
    booted c.args.code.now start c.in_ok-cpu.cpu c.requires.entry.entry _ _ _ c.requires.entry.found (c.in_ok-cpu.ensures.first c.requires.entry.entry (search rules)) (search rules) (search rules) (search rules) (search rules)
    in
    let each : AsksEach c.in_ok-cpu.cpu.code start [] (answered_in c.args.session.now) =
    subst (λ (k : Code). AsksEach k start [] (answered_in c.args.session.now)) (sym code)
    (asks c.args.code.now c.args.units c.args.of.now c.args.cursor c.args.session.now asked count s (subst HasOrder same c.code-accepted.ensures.order) (subst Marked same c.code-accepted.ensures.marked) c.requires.entry)
    in
    let ran : Runs c.in_ok-cpu.cpu.code start.function start.args start.cursor start.units (replies_of (answered_in c.args.session.now)) s.session.ran =
    subst (λ (k : Code). Runs k start.function start.args start.cursor start.units (replies_of (answered_in c.args.session.now)) s.session.ran) (sym code)
    (runs c.args.code.now c.args.units c.args.of.now c.args.cursor c.args.session.now asked count s)
    in
    let few : s.session.ran.count < 2 ^ 64 - 1 = subst (λ (n : ℕ). n < 2 ^ 64 - 1) s.session.counted short in
    subst (λ (l : List Answered). StopsFrom c.args.code.now lines start (replies_of l) last places.end)
    (answers c.args.code.now c.args.units c.args.of.now c.args.cursor c.args.session.now asked count s)
    (subst (λ (k : Code). StopsFrom k lines start (replies_of (answered_in c.args.session.now)) last places.end) code
    (c.in_ok-places.ensures.end seeks start s.session.ran first each ran few))
