-- How many lines there are after some more are put.
use Rattle.std.proofs.Common.{◌≡◌, ℕ, ◌+◌, ◌≤◌, List, [], ◌++◌, length, drop, ap, subst, arith, length-append}
use Rattle.std.proofs.lemmas.List.{drop_all}
use Rattle.core_isa.specs.declared.code.CodeLine.{CodeLine}
use Rattle.core_isa.specs.declared.code.Mark.{Mark}
use Rattle.core_isa.specs.declared.instr.Instr.{Instr}
use Rattle.code_forms.specs.Lines.{straight}
use Rattle.code_forms.proofs.Lengths.{length-straight}

-- once none is left to put
pub longer : (before after : List CodeLine) (mark now : Mark) (instrs : List Instr) (i : ℕ) → length instrs ≤ i → after ++ straight now (drop i instrs) ≡ before ++ straight mark instrs → length after ≡ length before + length instrs
longer before after mark now instrs i all put =
    let ended : after ++ straight now [] ≡ before ++ straight mark instrs = subst (λ l. after ++ straight now l ≡ before ++ straight mark instrs) (drop_all i instrs all) put in
    omega (arith, ap length ended, length-append after [], length-append before (straight mark instrs), length-straight mark instrs)
