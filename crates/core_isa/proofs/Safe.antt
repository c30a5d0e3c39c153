-- No run of marked code is ever stuck.
use Rattle.std.proofs.Common.{◌≡◌, ℕ, suc, zero, ◌<◌, length, Option, Some, None, refl, sym, ◌∙◌, ap, subst, subst₂}
use Rattle.std.specs.Prelude.{slice_get, option_map, is_some}
use Rattle.std.proofs.lemmas.Bool.{false≢true}
use Rattle.std.proofs.lemmas.Option.{slice_get_within}
use Rattle.core_isa.specs.declared.code.Code.{Code}
use Rattle.core_isa.specs.declared.code.CodeLine.{CodeLine}
use Rattle.core_isa.specs.declared.code.Mark.{Mark}
use Rattle.core_isa.specs.Machine.{Machine, Next, goes, ends, stuck}
use Rattle.core_isa.specs.Marks.{mark_at, IsRight, IsRightPlace, Marked, HasOrder}
use Rattle.core_isa.specs.Runs.{counted, step_by, step, go_on, steps, boot}
use Rattle.core_isa.specs.Sound.{IsSound, StaysSound, BeginsSound, NeverStuck}
use Rattle.core_isa.proofs.Acts.{act_sound}
use Rattle.core_isa.proofs.Decided.{found_one}
use Rattle.core_isa.proofs.Frames.{boot_sound}

-- a place with a mark is a place of the code
pub place_of_mark : (code : Code) (place : ℕ) (mark : Mark) → mark_at code place ≡ Some mark → place < length code.lines
place_of_mark code place mark marked = by_line (slice_get code.lines place) refl
  where
    by_line : (o : Option CodeLine) → slice_get code.lines place ≡ o → place < length code.lines
    by_line None gone =
        absurd (false≢true (ap is_some (sym (ap (option_map (λ line. line.mark)) gone) ∙ marked)))
    by_line (Some line) found = slice_get_within code.lines place line found

-- a step of a sound state
pub step_sound : (code : Code) → HasOrder code → Marked code → (m : Machine) → IsSound code m → StaysSound code (step code m)
step_sound code order marked m sound =
    let here : IsRightPlace code m.top.place =
    marked m.top.place (place_of_mark code m.top.place _ sound.top.stands.marked)
    in
    let f : here.function ≡ m.top.function =
    found_one
    (sym here.in_function ∙ ap (slice_get code.functions) sound.top.stands.same ∙ sound.top.keeps.found)
    in
    let mark : here.line.mark ≡ record { height = length m.top.operands; tries = length m.top.handlers; rec = sound.top.rec } =
    found_one
    (sym (ap (option_map (λ line. line.mark)) here.at_place) ∙ sound.top.stands.marked)
    in
    let right : IsRight code m.top.place m.top.function (record { instr = here.line.instr; mark = record { height = length m.top.operands; tries = length m.top.handlers; rec = sound.top.rec } }) =
    subst₂ (λ function. λ mark. IsRight code m.top.place function (record { instr = here.line.instr; mark = mark })) f mark here.right
    in
    subst
    (λ o. StaysSound code (step_by code o m))
    (sym here.at_place)
    (act_sound
    code
    (counted m)
    sound.top.index
    sound.top.rec
    (record { keeps = sound.top.keeps; waiting = sound.callers; within = sound.within })
    sound.top.stands.same
    order
    marked
    here.line.instr
    right.exist
    right.live
    right.follow)

-- further steps keep what a step leads to
go_on_sound : (code : Code) (next : Next) (again : Machine → Next) → StaysSound code next → ((m : Machine) → IsSound code m → StaysSound code (again m)) → StaysSound code (go_on next again)
go_on_sound code (goes m) again sound on = on m sound
go_on_sound code (ends outcome m) again sound on = tt
go_on_sound code stuck again sound on = sound

-- so many steps of a sound state
pub steps_sound : (code : Code) → HasOrder code → Marked code → (n : ℕ) (m : Machine) → IsSound code m → StaysSound code (steps code n m)
steps_sound code order marked zero m sound = sound
steps_sound code order marked (suc n) m sound =
    go_on_sound
    code
    (step code m)
    (steps code n)
    (step_sound code order marked m sound)
    (λ m' sound'. steps_sound code order marked n m' sound')

pub begins_sound : (code : Code) → HasOrder code → Marked code → BeginsSound code
begins_sound code order marked function f found args fit cursor units replies =
    boot_sound code order marked function f found args fit cursor units replies

pub never_stuck : (code : Code) → HasOrder code → Marked code → NeverStuck code
never_stuck code order marked function f found args fit cursor units replies n lost =
    subst
    (StaysSound code)
    lost
    (steps_sound code order marked n (boot f args cursor units replies) (boot_sound code order marked function f found args fit cursor units replies))
