-- The names of exceptions.
use Rattle.std.specs.Prelude.{ℕ, List, codes}
use Rattle.rtio_types.specs.declared.outcome.Exc.{Exc}
use Rattle.rtio_types.specs.declared.outcome.Exc.TheVariants.{RTIOUnderflow, RTIOOverflow, DMAError}
use Rattle.rtio_types.specs.declared.outcome.Exc.TheVariants.{ZeroDivisionError, IndexError, StackOverflow}

-- as kernels spell them, so as the meaning of `except` has them
abbrev pub exception_name : Exc → List ℕ
exception_name RTIOUnderflow = codes "RTIOUnderflow"
exception_name RTIOOverflow = codes "RTIOOverflow"
exception_name DMAError = codes "DMAError"
exception_name ZeroDivisionError = codes "ZeroDivisionError"
exception_name IndexError = codes "IndexError"
exception_name StackOverflow = codes "StackOverflow"
