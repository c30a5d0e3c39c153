-- The report and the summary of a run, as bytes.
use Rattle.std.specs.Prelude.{ℕ, List, ◌++◌, flat_map, length, pos, codes}
use Rattle.rtio_types.specs.Time.{reading}
use Rattle.output_merge.specs.Outputs.{LogLists}
use Rattle.rtio_core.specs.Reply.{outputs_at}
use Rattle.rtio_core.specs.Told.{log_at, peaks_at}
use Rattle.rtio_core.specs.Core.{CoreState}
use Rattle.sim_report.specs.Datasets.{datasets_of}
use Rattle.sim_report.specs.Ends.{end_of}
use Rattle.sim_report.specs.Lines.{code_line, count_line, data_line, end_lines}
use Rattle.sim_report.specs.Lines.{event_line, lanes_line, log_line, moment_line}
use Rattle.sim_report.specs.Pending.{pending_events}

-- the log by its kinds: sequence errors, collisions, busy channels, cleared events
abbrev pub log_text : LogLists → List ℕ
log_text log =
    flat_map (log_line (codes "seq")) log.sequence
    ++ flat_map (log_line (codes "col")) log.collided
    ++ flat_map (log_line (codes "busy")) log.busy
    ++ flat_map (log_line (codes "rst")) log.cleared

-- how many lines of each kind there are
abbrev pub log_counts : LogLists → List ℕ
log_counts log =
    count_line (codes "seq") (length log.sequence)
    ++ count_line (codes "col") (length log.collided)
    ++ count_line (codes "busy") (length log.busy)
    ++ count_line (codes "rst") (length log.cleared)

-- how full the lanes were, the bytes of the code and the instructions that it took, the end, the cursor and the counter
abbrev pub closing_text : CoreState → (budget length steps : ℕ) → List ℕ
closing_text core budget length steps =
    lanes_line (peaks_at core.config core.history)
    ++ code_line length steps
    ++ end_lines core.config.horizon budget (end_of core.history)
    ++ moment_line (codes "counter") (pos (reading core.counter))

-- what was put out, what is still to be, the log, the datasets, and the rest
abbrev pub report_text : CoreState → (budget length steps : ℕ) → List ℕ
report_text core budget length steps =
    flat_map (event_line (codes "out")) (outputs_at core.config core.history core.counter)
    ++ flat_map (event_line (codes "pend")) (pending_events core)
    ++ log_text (log_at core.config core.history core.counter)
    ++ flat_map data_line (datasets_of core.history)
    ++ closing_text core budget length steps

-- how many events were put out, how many lines each kind of the log has, and the rest
abbrev pub summary_text : CoreState → (budget length steps : ℕ) → List ℕ
summary_text core budget length_of_code steps =
    count_line (codes "outs") (length (outputs_at core.config core.history core.counter))
    ++ log_counts (log_at core.config core.history core.counter)
    ++ closing_text core budget length_of_code steps
