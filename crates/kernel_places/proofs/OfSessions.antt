-- The run of a session, from its entries.
use Rattle.std.proofs.Common.{◌≡◌, ℕ, ◌<◌, List, [], Some, sym, ap, ◌∙◌, subst}
use Rattle.std.specs.Prelude.{ℤ, ◌^◌, slice_get}
use Rattle.rtio_core.specs.declared.data.Entry.{Entry}
use Rattle.rtio_core.specs.declared.data.StartOf.{StartOf}
use Rattle.core_isa.specs.declared.code.Code.{Code}
use Rattle.core_isa.specs.declared.code.CodeFunction.{CodeFunction}
use Rattle.core_isa.specs.Marks.{HasOrder, Marked}
use Rattle.core_isa.specs.Runs.{Runs, boot}
use Rattle.core_cpu.specs.Moments.{Moment}
use Rattle.core_cpu.specs.Standing.{HasEntry, Start as Beginning}
use Rattle.core_cpu.specs.declared.phase.Phase.TheVariants.{Ready}
use Rattle.core_session.specs.Sessions.{Answered, replies_of}
use Rattle.kernel_places.specs.OfSessions.{AreOfSession, beginning}
use Rattle.kernel_places.specs.Places.{AsksEach, IsAtBeginning, answered_in}
use Rattle.kernel_places.proofs.SessionLaws.{sessions_answer, sessions_ask}

-- a processor that has been booted
pub booted : (code : Code) (start : Beginning) (now : Moment) (entry : CodeFunction) (args : List ℤ) (cursor : ℤ) (units : ℕ)
    → slice_get code.functions start.function ≡ Some entry
    → now ≡ record { code = code; machine = boot entry args cursor units []; phase = Ready }
    → args ≡ start.args
    → cursor ≡ start.cursor
    → units ≡ start.units
    → start.units < 2 ^ 32
    → IsAtBeginning start now
booted code start now entry args cursor units found is a t u few =
    record {
      entry = entry;
      found = ap (λ (m : Moment). slice_get m.code.functions start.function) is ∙ found;
      units = few;
      machine =
          ap (λ (m : Moment). m.machine) is
          ∙ ap (λ (l : List ℤ). boot entry l cursor units []) a
          ∙ ap (λ (z : ℤ). boot entry start.args z units []) t
          ∙ ap (λ (n : ℕ). boot entry start.args start.cursor n []) u;
      ready = ap (λ (m : Moment). m.phase) is;
    }

module _ (code : Code) (units : ℕ) (of : StartOf) (cursor : ℤ) (entries : List Entry) (asked : List Answered) (count : ℕ)
    (s : AreOfSession code units of cursor entries asked count) where
  -- the answered requests among them
  pub answers : answered_in entries ≡ asked
  answers =
      ap answered_in s.added
      ∙ sessions_answer of s.old s.new s.session.asked s.how s.session.cursor s.session.adds
      ∙ sym s.answered

  pub asks : HasOrder code → Marked code → HasEntry code of.function of.args → AsksEach code (beginning of cursor units) [] (answered_in entries)
  asks order marked entry =
      subst (λ (l : List Answered). AsksEach code (beginning of cursor units) [] l) (sym s.answered ∙ sym answers)
      (subst (λ (z : ℤ). AsksEach code (beginning of z units) [] s.session.asked) s.begins
      (sessions_ask code order marked units of s.old s.new s.how count entry s.session))

  pub runs : Runs code of.function of.args cursor units (replies_of (answered_in entries)) s.session.ran
  runs =
      subst (λ (l : List Answered). Runs code of.function of.args cursor units (replies_of l) s.session.ran) (sym s.answered ∙ sym answers)
      (subst (λ (z : ℤ). Runs code of.function of.args z units (replies_of s.session.asked) s.session.ran) s.begins s.session.runs)
