-- A session of code that does what a program does is one of the program's meaning.
use Rattle.std.proofs.Common.{◌≡◌, ℕ, List, [], ◌∷◌, ◌++◌, inl, inr, sym, ap, subst}
use Rattle.std.specs.Prelude.{Result, Ok, Err, IfOk, FitsSigned}
use Rattle.std.specs.Int.{w64}
use Rattle.rtio_types.specs.declared.request.Request.{Request}
use Rattle.rtio_core.specs.declared.data.Config.{Config}
use Rattle.rtio_core.specs.declared.data.Entry.{Entry}
use Rattle.rtio_core.specs.declared.data.StartOf.{StartOf}
use Rattle.rtio_core.specs.Core.{CoreState}
use Rattle.sched_state.specs.declared.entry.KernelResult.{KernelResult}
use Rattle.core_isa.specs.declared.code.Code.{Code}
use Rattle.core_isa.specs.WellAsked.{RepliesFit}
use Rattle.kern_syntax.specs.Tree.{ProgramTree}
use Rattle.core_cpu.specs.Standing.{Start as Beginning}
use Rattle.core_session.specs.Scripts.{HaveNumbers}
use Rattle.core_session.specs.Sessions.{Account, Answered, EndsAs, account_of, beginning_of, replies_of, requests_of}
use Rattle.core_session.proofs.Histories.{all-asked, front-fits, front-numbers, last-asked}
use Rattle.kernel_session.specs.DoesAs.{DoesAs}
use Rattle.kernel_session.specs.Meant.{TakesArguments, account_of_meaning, meant}
pub use Rattle.kernel_session.proofs.Meant.{RunsAreMeant, has_entry}
use Rattle.kernel_session.proofs.Meant.{same_account}
use Rattle.kernel_session.proofs.Playbacks.{plays_recordings}
use Rattle.lab_kernels.specs.CutShort.{CodeAsks, IsStopped, LacksReply, LeavesCode}
use Rattle.lab_kernels.specs.Kernels.{KernelRun, entries_until_end}
use Rattle.lab_kernels.specs.Meanings.{LeavesKernel, MeansProgram, ProgramAsks, RunsKernel, beginning_behind}
use Rattle.lab_kernels.specs.Runs.{HasRun, RunsCode}

pub means_program : (program : ProgramTree) (code : Code) → DoesAs program code → RunsAreMeant program code → (units chair : ℕ) (config : Config) (before : List Entry) (k : KernelRun) → TakesArguments program k.of.function k.of.args
    → RunsCode code units chair config before k → MeansProgram program units chair config before k
means_program program code does agrees units chair config before k takes r =
    let start = beginning_behind before units k in
    let same : account_of r.ran ≡ account_of_meaning (meant program start (replies_of k.asked)) =
    same_account program code agrees start takes r.from (replies_of k.asked) r.ran r.runs r.fit r.numbers in
    let ends : EndsAs config (before ++ entries_until_end chair before k) k.asked (account_of_meaning (meant program start (replies_of k.asked))) k.how k.cursor =
    subst (λ (a : Account). EndsAs config (before ++ entries_until_end chair before k) k.asked a k.how k.cursor) same r.ends in
    record {
      ends = ends;
      plays =
          plays_recordings
          program
          code
          does
          start
          takes
          r.from
          config
          (before ++ entries_until_end chair before k)
          k.asked
          k.how
          k.cursor
          ends
          r.numbers
          (subst (λ (q : List Request). RepliesFit q (replies_of k.asked)) (ap (λ (a : Account). a.requests) same) r.fit);
    }

pub kernel_ok : {E : Type 0} (program : ProgramTree) (code : Code) → DoesAs program code → RunsAreMeant program code → (units chair : ℕ) (of : StartOf) (old new : CoreState) (result : Result KernelResult E) → TakesArguments program of.function of.args
    → IfOk result (λ r. HasRun code units chair of old new r)
    → IfOk result (λ r. RunsKernel program code units chair of old new r)
kernel_ok program code does agrees units chair of old new (Ok r) takes ran =
    record {
      ran = ran;
      means =
          means_program program code does agrees units chair old.config old.history ran.k
          (subst (λ (o : StartOf). TakesArguments program o.function o.args) (sym ran.adds.of_is) takes)
          ran.runs;
    }
kernel_ok program code does agrees units chair of old new (Err e) takes ran = tt

-- ---- without memory

module _ (program : ProgramTree) (code : Code) (agrees : RunsAreMeant program code) (start : Beginning) (takes : TakesArguments program start.function start.args) (from : FitsSigned w64 start.cursor) where
  -- what the code asks next is what the meaning asks next
  program_asks : (front more : List Answered) (request : Request) → RepliesFit (requests_of (front ++ more)) (replies_of (front ++ more)) → HaveNumbers (replies_of (front ++ more))
      → CodeAsks code start front request → ProgramAsks program start front request
  program_asks front more request fit numbers c =
      let fits : RepliesFit c.ran.requests (replies_of front) =
      subst (λ (q : List Request). RepliesFit q (replies_of front)) (sym c.lacks.1) (front-fits front more (request ∷ []) fit) in
      subst (λ (a : Account). LacksReply a front request)
      (same_account program code agrees start takes from (replies_of front) c.ran c.runs fits (front-numbers front more numbers)) c.lacks

  still_stopped : (asked : List Answered) (core : CoreState) → RepliesFit (requests_of asked) (replies_of asked) → HaveNumbers (replies_of asked)
      → IsStopped (CodeAsks code start asked) core → IsStopped (ProgramAsks program start asked) core
  still_stopped asked core fit numbers (inl still) = inl still
  still_stopped asked core fit numbers (inr (request, asks, how)) = inr (request, last-asked (CodeAsks code start) (ProgramAsks program start) program_asks asked request fit numbers asks, how)

pub kernel_left : (program : ProgramTree) (code : Code) → RunsAreMeant program code → (units chair : ℕ) (of : StartOf) (old new : CoreState) → TakesArguments program of.function of.args
    → LeavesCode code units chair of old new → LeavesKernel program units chair of old new
kernel_left program code agrees units chair of old new takes (inl same) = inl same
kernel_left program code agrees units chair of old new takes (inr cuts) =
    let start = beginning_of of units old in
    let cut = cuts.cut in
    inr (record {
      asked = cut.asked;
      history = cut.history;
      config = cut.config;
      later = cut.later;
      at_top = cut.at_top;
      asks = all-asked (CodeAsks code start) (ProgramAsks program start) (program_asks program code agrees start takes cuts.from) [] cut.asked cuts.fit cuts.numbers cut.asks;
      stands = still_stopped program code agrees start takes cuts.from cut.asked new cuts.fit cuts.numbers cut.stands;
    })
