-- What is read from the bytes of a dump.
use Rattle.std.specs.Prelude.{◌≡◌, ℕ, List, None}
use Rattle.core_analyzer.specs.Dumps.{Dumped}
use Rattle.core_analyzer.specs.DumpReading.{dump_read}
use Rattle.core_analyzer.specs.DumpFields.{first_wrong}

-- the bytes have no wrong field, and the dump is the one that is read from them
pub record IsRead (bytes : List ℕ) (dump : Dumped) : Type 0 where
  pub right : first_wrong bytes ≡ None
  pub dump_is : dump_read bytes ≡ dump
