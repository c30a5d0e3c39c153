-- The verdict on the function of a program that runs first, and what its yes promises.
use Rattle.std.specs.Prelude.{ℕ, codes, unwrap_or}
use Rattle.kern_syntax.specs.Tree.{ProgramTree}
use Rattle.kern_types.specs.Programs.{place_of_function}
use Rattle.slack_law.specs.Promise.{NeverUnderflows}
use Rattle.slack_meaning.specs.declared.verdict.Verdict.{Verdict}
use Rattle.slack_meaning.specs.Programs.{slack_verdict}

-- the place of `main` in the text, from 0; a typed program has one
abbrev pub place_of_main : ProgramTree → ℕ
place_of_main program = unwrap_or (place_of_function program (codes "main")) 0

-- the verdict on `main`, at a cost, for lanes of at least that depth
abbrev pub verdict_of_main : ProgramTree → (cost depth : ℕ) → Verdict
verdict_of_main program cost depth = slack_verdict program (place_of_main program) cost depth

-- on no core of that cost and at least that depth does an output of a first session of `main` come too late
abbrev pub MainNeverUnderflows : ProgramTree → (cost depth : ℕ) → Type 0
MainNeverUnderflows program cost depth = NeverUnderflows program (place_of_main program) cost depth
