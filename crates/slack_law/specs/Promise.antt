-- What a yes promises: on no core does an output of the kernel come too late.
use Rattle.std.specs.Prelude.{◌≡◌, ◌≢◌, ℕ, ◌≤◌, List, [], ◌∷◌, ◌++◌, map, pos, IsTrue, All}
use Rattle.limits.specs.Limits.{most_budget}
use Rattle.rtio_types.specs.declared.request.Request.{Request}
use Rattle.rtio_types.specs.declared.request.Reply.{Reply}
use Rattle.rtio_types.specs.declared.request.Reply.TheVariants as answer
use Rattle.kern_syntax.specs.Tree.{ProgramTree}
use Rattle.timeline_sem.specs.Programs.{meaning}
use Rattle.rtio_core.specs.declared.data.Act.{Act}
use Rattle.rtio_core.specs.declared.data.Act.TheVariants.{Start, Asked, End}
use Rattle.rtio_core.specs.declared.data.Config.{Config}
use Rattle.rtio_core.specs.declared.data.Entry.{Entry}
use Rattle.rtio_core.specs.Entries.{is_config_ok}
use Rattle.rtio_core.specs.Lawful.{IsLawful}
use Rattle.slack_meaning.specs.Programs.{}

-- a request, its reply, and the counter at which it got it
pub record Answered : Type 0 where
  pub request : Request
  pub reply : Reply
  pub at : ℕ

-- what was asked in the first session: in all entries before the first end
abbrev pub first_session : List Entry → List Answered
first_session [] = []
first_session (entry ∷ rest) = before_end entry.act (first_session rest)
  where
    before_end : Act → List Answered → List Answered
    before_end (Start of cursor at) behind = behind
    before_end (Asked request reply at) behind = record { request = request; reply = reply; at = at } ∷ behind
    before_end (End outcome cursor at) behind = []

abbrev pub requests_of : List Answered → List Request
requests_of asked = map (λ (a : Answered). a.request) asked

abbrev pub replies_of : List Answered → List Reply
replies_of asked = map (λ (a : Answered). a.reply) asked

-- the requests are the first ones of those that the function makes from cursor 0 with so many units under their replies
abbrev pub AreAskedBy : ProgramTree → (function units : ℕ) → List Answered → Type 0
AreAskedBy program function units asked =
    (rest : List Request)
    × ((meaning program function [] (pos 0) units (replies_of asked)).requests ≡ requests_of asked ++ rest)

-- none of the replies is an underflow
abbrev pub AreInTime : List Answered → Type 0
AreInTime asked = All (λ a. a.reply ≢ answer.Underflow) asked

-- on every core of that cost, whose lanes take that many events at least, whatever its history, a first session that
-- runs the function with at most a million units is never answered that an output is too late
abbrev pub NeverUnderflows : ProgramTree → (function cost depth : ℕ) → Type 0
NeverUnderflows program function cost depth =
    (config : Config) (history : List Entry) (units : ℕ)
    → IsTrue (is_config_ok config)
    → config.cost ≡ cost
    → depth ≤ config.depth
    → IsLawful config history
    → units ≤ most_budget
    → AreAskedBy program function units (first_session history)
    → AreInTime (first_session history)
