-- A program that says what is right, and tells it, answers its words.
use Rattle.std.proofs.Common.{inl, inr, ◌⊎◌, ◌≡◌, ℕ, List, sym, ◌∙◌, ap, subst}
use Rattle.std.specs.Prelude.{Bool, Err, None, Ok, Option, Result, Some, false, true}
use Rattle.top_calls.specs.declared.answer.Answer.{Answer}
use Rattle.top_calls.specs.declared.answer.Answer.TheVariants.{Due, Refused, Bad}
use Rattle.top_calls.specs.declared.stop.Stop.{Stop}
use Rattle.top_calls.specs.declared.stop.Stop.TheVariants.{Usage, ReadFault, TooLong, Memory}
use Rattle.top_calls.specs.Calls.{AnswersWords, IsComplete}
use Rattle.top_calls.specs.Commands.{Command, Gets, Program}
use Rattle.top_calls.specs.Sayings.{IsSaid, IsSaidUnder, of_none, of_one}
use Rattle.top_calls.specs.Statuses.{refusal_status}
use Rattle.top_calls.specs.Streams.{HasFailed, HasGot, Stream}
use Rattle.top_calls.specs.Tellings.{IsTold, IsWritten, failed, whole}
use Rattle.top_calls.proofs.Sources.{few-not-many, given-are, given-not-many, got-few, not-longer}

-- ---- what was written

-- to a sink that didn't fail, all was written
all-written : {K : Type 0} (bytes : List ℕ) (own : ℕ) (sink : Stream K) (status : ℕ) → IsWritten bytes own sink status → (HasFailed sink → ⊥) → (status ≡ own) × HasGot sink bytes
all-written bytes own sink status (whole is got steady) well = (is, got)
all-written bytes own sink status (failed is part fault) well = absurd (well fault)

-- the status is the own one, or 4
own-or-four : {K : Type 0} (bytes : List ℕ) (own : ℕ) (sink : Stream K) (status : ℕ) → IsWritten bytes own sink status → (status ≡ own) ⊎ (status ≡ 4)
own-or-four bytes own sink status (whole is got steady) = inl is
own-or-four bytes own sink status (failed is part fault) = inr is

-- ---- under a command

-- a refusal, of a text or of other bytes
refusal-complete : {S K E : Type 0} (command : Command) (source : Stream S) (out : Stream K) (err : Stream E) (is_text : Bool) (text line : List ℕ) (status : ℕ)
    → Gets command.origin source text → command.duty.takes_text ≡ is_text → ¬ command.duty.IsTaken text → IsWritten line (refusal_status is_text) err status
    → IsComplete command source out err status
refusal-complete command source out err is_text text line status gets kind none told = record {
  too_long_only = λ left is many. absurd (few-not-many command.origin source left is (got-few command.origin source text gets) many);
  too_long_complete = λ most left reads is more well. absurd (not-longer command.origin source text left most gets reads is more);
  complete = λ other given taken well.
      absurd (none (subst command.duty.IsTaken (sym (given-are command.origin source text other gets given)) taken));
  refused_only = λ other told_line given refused well.
      inl ((all-written line (refusal_status is_text) err status told well.err_well).0 ∙ ap refusal_status (sym kind));
}

is-complete : {S K E : Type 0} (command : Command) (usage : List ℕ) (source : Stream S) (out : Stream K) (err : Stream E) (said : Result Answer Stop) (status : ℕ)
    → IsSaidUnder command source said → IsTold usage said out err status → IsComplete command source out err status
is-complete command usage source out err (Ok (Due bytes finish)) status h told =
    let are = given-are command.origin source h.text in
    record {
      too_long_only = λ left is many. absurd (few-not-many command.origin source left is (got-few command.origin source h.text h.gets) many);
      too_long_complete = λ most left reads is more well. absurd (not-longer command.origin source h.text left most h.gets reads is more);
      complete = λ text given taken well.
          let w = all-written bytes.items _ out status told.0 well.out_well in
          inl (record {
            written = bytes.items;
            due = subst (λ (t : List ℕ). command.duty.IsDue t bytes.items status) (are text h.gets given)
                (subst (λ (n : ℕ). command.duty.IsDue h.text bytes.items n) (sym w.0) h.right.0);
            got = w.1;
          });
      refused_only = λ text line given refused well.
          absurd (h.right.1 line (subst (λ (t : List ℕ). command.duty.IsRefused t line) (sym (are text h.gets given)) refused));
    }
is-complete command usage source out err (Ok (Refused line)) status h told =
    refusal-complete command source out err true h.text line.items status h.gets h.right.0 h.right.2 told.0
is-complete command usage source out err (Ok (Bad line)) status h told =
    refusal-complete command source out err false h.text line.items status h.gets h.right.0 h.right.2 told.0
is-complete command usage source out err (Err Usage) status h told = absurd h
is-complete command usage source out err (Err ReadFault) status h told = record {
  too_long_only = λ left is many. absurd (few-not-many command.origin source left is h.0 many);
  too_long_complete = λ most left reads is more well. absurd (well.source_well h.1);
  complete = λ text given taken well. absurd (well.source_well h.1);
  refused_only = λ text line given refused well. absurd (well.source_well h.1);
}
is-complete command usage source out err (Err TooLong) status h told = record {
  too_long_only = λ left is many. own-or-four _ 8 err status told.0;
  too_long_complete = λ most left reads is more well. inl (all-written _ 8 err status told.0 well.err_well).0;
  complete = λ text given taken well. absurd (given-not-many command.origin source text given h.0);
  refused_only = λ text line given refused well. absurd (given-not-many command.origin source text given h.0);
}
is-complete command usage source out err (Err Memory) status h told = record {
  too_long_only = λ left is many. absurd (few-not-many command.origin source left is h.0 many);
  too_long_complete = λ most left reads is more well. inr (all-written _ 5 err status told.0 well.err_well).0;
  complete = λ text given taken well. inr (all-written _ 5 err status told.0 well.err_well).0;
  refused_only = λ text line given refused well. inr (all-written _ 5 err status told.0 well.err_well).0;
}

-- ---- under words

said-under : {Ask S : Type 0} (program : Program Ask) (asked : Option Ask) (ask : Ask) (source : Stream S) (said : Result Answer Stop) → IsSaid program asked source said → asked ≡ Some ask
    → IsSaidUnder (program.command_of ask) source said
said-under program asked ask source said (of_none none what kept) is = absurd (let clash : None ≡ Some ask = sym none ∙ is in cc)
said-under {Ask = Ask} program asked ask source said (of_one other other_is right) is =
    let same : other ≡ ask = (let both : Some other ≡ Some ask = sym other_is ∙ is in cc) in
    subst (λ (x : Ask). IsSaidUnder (program.command_of x) source said) same right

pub answers-words : {Ask S K E : Type 0} (program : Program Ask) (asked : Option Ask) (source : Stream S) (out : Stream K) (err : Stream E) (said : Result Answer Stop) (status : ℕ)
    → IsSaid program asked source said → IsTold program.usage said out err status → AnswersWords program asked source out err status
answers-words program asked source out err said status is_said is_told = record {
  said = said;
  is_said = is_said;
  is_told = is_told;
  is_complete = λ ask is.
      is-complete (program.command_of ask) program.usage source out err said status (said-under program asked ask source said is_said is) is_told;
}
