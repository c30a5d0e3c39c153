-- Runs of marked code ask only what is well formed.
use Rattle.std.proofs.Common.{◌≡◌, ℕ, suc, zero, List, Option, Some, None, IsTrue, refl, sym, ◌∙◌, ap, subst, arith}
use Rattle.std.specs.Prelude.{slice_get}
use Rattle.std.specs.List.{list_all}
use Rattle.std.proofs.lemmas.Option.{slice_get_within}
use Rattle.rtio_types.specs.declared.request.Reply.{Reply}
use Rattle.rtio_types.specs.Requests.{is_well_formed}
use Rattle.core_isa.specs.declared.code.Code.{Code}
use Rattle.core_isa.specs.declared.code.CodeLine.{CodeLine}
use Rattle.core_isa.specs.Machine.{Machine, Next, goes, ends, stuck}
use Rattle.core_isa.specs.Marks.{OperandsExist, IsRightPlace, Marked}
use Rattle.core_isa.specs.Runs.{Ran, Gives, counted, step_by, step, go_on, steps, boot}
use Rattle.core_isa.specs.WellAsked.{RepliesFit, AsksWell}
use Rattle.core_isa.proofs.Askable.{Askable, StaysAskable}
use Rattle.core_isa.proofs.Asked.{act_asks}
use Rattle.core_isa.proofs.Decided.{found_one}

-- a step
step_asks : (given : List Reply) (code : Code) → Marked code → (m : Machine) → Askable given m → StaysAskable given (step code m)
step_asks given code marked m askable = by_line (slice_get code.lines m.top.place) refl
  where
    by_line : (o : Option CodeLine) → slice_get code.lines m.top.place ≡ o → StaysAskable given (step_by code o m)
    by_line None gone = tt
    by_line (Some line) found =
        let here : IsRightPlace code m.top.place =
        marked m.top.place (slice_get_within code.lines m.top.place line found)
        in
        let same : here.line ≡ line = found_one (sym here.at_place ∙ found) in
        act_asks
        given
        code
        (counted m)
        askable
        here.function
        line.instr
        (subst (λ l. OperandsExist code here.function l.instr) same here.right.exist)

-- further steps
go_on_asks : (given : List Reply) (next : Next) (again : Machine → Next) → StaysAskable given next → ((m : Machine) → Askable given m → StaysAskable given (again m)) → StaysAskable given (go_on next again)
go_on_asks given (goes m) again askable on = on m askable
go_on_asks given (ends outcome m) again askable on = askable
go_on_asks given stuck again askable on = tt

steps_ask : (given : List Reply) (code : Code) → Marked code → (n : ℕ) (m : Machine) → Askable given m → StaysAskable given (steps code n m)
steps_ask given code marked zero m askable = askable
steps_ask given code marked (suc n) m askable =
    go_on_asks
    given
    (step code m)
    (steps code n)
    (step_asks given code marked m askable)
    (λ now askable'. steps_ask given code marked n now askable')

-- an end
end_asks : (given : List Reply) (next : Next) (ran : Ran) → StaysAskable given next → Gives next ran → RepliesFit ran.requests given → IsTrue (list_all is_well_formed ran.requests)
end_asks given (goes m) ran askable gives fit = absurd gives
end_asks given (ends outcome m) ran askable gives fit =
    let same : ran.requests ≡ m.asked = ap (λ r. r.requests) gives in
    subst
    (λ asked. IsTrue (list_all is_well_formed asked))
    (sym same)
    (askable.well (subst (λ asked. RepliesFit asked given) same fit))
end_asks given stuck ran askable gives fit = absurd gives

pub asks_well : (code : Code) → Marked code → AsksWell code
asks_well code marked function args cursor units replies ran room runs fit =
    end_asks
    replies
    (steps code runs.bound (boot runs.entry args cursor units replies))
    ran
    (steps_ask
    replies
    code
    marked
    runs.bound
    (boot runs.entry args cursor units replies)
    (record { left = refl; well = λ fit. refl; board = λ fit. refl; bound = omega arith }))
    runs.gives
    fit
