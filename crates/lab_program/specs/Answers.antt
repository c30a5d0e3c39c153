-- What the program owes the bytes of a session, and which bytes it refuses.
use Rattle.std.specs.Prelude.{◌≡◌, ℕ, List, [], ◌∷◌, Option, Some, None, true, false, codes}
use Rattle.exp_model.specs.declared.session.Session.{Session}
use Rattle.exp_json.specs.Texts.{IsSessionText}
use Rattle.limits.specs.Limits.{most_session}
use Rattle.top_calls.specs.Commands.{Duty, Program, Reads}
use Rattle.lab_program.specs.Laboratories.{ReportsRun}
use Rattle.lab_program.specs.Refusals.{IsRefusedText}

-- the text is a session, and the bytes are the report of a run of it
pub record ReportsText (text written : List ℕ) : Type 0 where
  pub session : Session
  pub is_session : IsSessionText text session
  pub due : ReportsRun session written

-- the report of a run of the session is due, with status 0; bytes that are none are refused
abbrev pub report_of_session : Duty
report_of_session = record {
  IsDue = λ text written status. ReportsText text written × (status ≡ 0);
  IsTaken = λ text. (session : Session) × IsSessionText text session;
  IsRefused = IsRefusedText;
  takes_text = true;
}

abbrev pub laboratory : Program (Unit {0})
laboratory = record {
  usage = codes "usage: artiq_lab\n";
  takes_memory = false;
  command_of = λ ask. record { origin = Reads most_session; duty = report_of_session };
}

-- a session is asked for without words, and no word is accepted
abbrev pub session_asked : {Word : Type 0} → (words : List Word) → Option (Unit {0})
session_asked [] = Some tt
session_asked (word ∷ words) = None
