use Rattle.typed_runs.proofs.laws.judged_programs_are_suited.Goals as goal

-- the verdict between the rules and what the compiler asks for
pub returns : goal.returns
returns c = λ program spellable judged.
    c.typed_programs_are_suited.ensures program spellable ((c.programs_are_typed_as_judged.ensures program).0 judged)
