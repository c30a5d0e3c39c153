-- A yes at a cost and a depth is a yes at each smaller cost and each greater depth.
use Rattle.std.specs.Prelude.{◌≡◌, ℕ, ◌≤◌}
use Rattle.kern_syntax.specs.Tree.{ProgramTree}
use Rattle.slack_meaning.specs.declared.verdict.Verdict.TheVariants.{Yes}
use Rattle.slack_meaning.specs.Programs.{slack_verdict}

-- with as many outputs
abbrev pub StaysYes : ProgramTree → (function : ℕ) → Type 0
StaysYes program function =
    (less more shallow deep outs : ℕ)
    → less ≤ more
    → shallow ≤ deep
    → slack_verdict program function more shallow ≡ Yes outs
    → slack_verdict program function less deep ≡ Yes outs
