-- What is told of a link over which a run's events are sent.
use Rattle.std.specs.Prelude.{◌≡◌, ℕ, List}
use Rattle.rtio_types.specs.declared.outcome.Outcome.{Outcome}
use Rattle.rtio_core.specs.Core.{CoreState}
use Rattle.rtio_core.specs.Reply.{outputs_at}
use Rattle.sat_link.specs.Links.{LinkState, new_link}
use Rattle.sat_rounds.specs.declared.letters.Letter.{Letter}
use Rattle.sat_rounds.specs.Rounds.{Settles}
use Rattle.sat_rounds.specs.Texts.{link_text}
use Rattle.sim_report.specs.Pending.{pends}
use Rattle.sim_words.specs.declared.asked.Options.{Options}
use Rattle.top_calls.specs.Statuses.{status_of}
use Rattle.sim_program.specs.Reports.{finish_of}
use Rattle.sim_program.specs.Runs.{RunsKernel}

-- the bytes are the lines of a link to so many lanes of such a depth, over which the events that a core put out were
-- sent, by stamp and channel, in rounds of the word
pub record IsSentAs (word : List Letter) (lanes depth : ℕ) (core : CoreState) (written : List ℕ) : Type 0 where
  pub last : LinkState
  pub settles : Settles word (outputs_at core.config core.history core.counter) (new_link lanes depth) last
  pub lines : written ≡ link_text last

-- the bytes and the status tell of a run of the kernel that the text is, whose events, all that its core put out until
-- it was drained, were sent so over a link with the lanes and the depth of its core
pub record TellsLink (options : Options) (word : List Letter) (text written : List ℕ) (status : ℕ) : Type 0 where
  pub core : CoreState
  pub how : Outcome
  pub size : ℕ
  pub steps : ℕ
  pub run : RunsKernel options text core how size steps
  pub sent : IsSentAs word options.config.lanes options.config.depth core written
  pub status_is : status ≡ status_of (finish_of how (pends core))
