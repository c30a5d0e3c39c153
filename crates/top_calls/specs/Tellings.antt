-- That what a program says is told.
use Rattle.std.specs.Prelude.{◌≡◌, ℕ, List, true, false, Result, Ok, Err}
use Rattle.top_calls.specs.declared.answer.Answer.{Answer}
use Rattle.top_calls.specs.declared.answer.Answer.TheVariants.{Due, Refused, Bad}
use Rattle.top_calls.specs.declared.stop.Stop.{Stop}
use Rattle.top_calls.specs.Statuses.{refusal_status, status_of, stop_line, stop_status}
use Rattle.top_calls.specs.Streams.{HasFailed, HasGot, HasGotPart, IsKept, IsSteady, Stream}

-- these bytes were written, and this is their status; or the sink failed, which has a part of them, and the status is 4
pub data IsWritten {K : Type 0} (bytes : List ℕ) (own : ℕ) (sink : Stream K) (status : ℕ) : Type 0 where
  whole : status ≡ own → HasGot sink bytes → IsSteady sink → IsWritten bytes own sink status
  failed : status ≡ 4 → HasGotPart sink bytes → HasFailed sink → IsWritten bytes own sink status

-- what is due was written to out, or a line to err, and nothing was done to the other one
abbrev pub IsTold : {K E : Type 0} → (usage : List ℕ) → Result Answer Stop → (out : Stream K) → (err : Stream E)
    → (status : ℕ) → Type 0
IsTold usage (Ok (Due bytes finish)) out err status = IsWritten bytes.items (status_of finish) out status × IsKept err
IsTold usage (Ok (Refused line)) out err status = IsWritten line.items (refusal_status true) err status × IsKept out
IsTold usage (Ok (Bad line)) out err status = IsWritten line.items (refusal_status false) err status × IsKept out
IsTold usage (Err stop) out err status = IsWritten (stop_line usage stop) (stop_status stop) err status × IsKept out
