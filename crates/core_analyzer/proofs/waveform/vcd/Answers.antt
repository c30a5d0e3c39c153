use Rattle.std.proofs.Common.{◌≡◌, ◌++◌, pos, true, List, ℕ, Global, Vec, ap, sym, subst, ◌∙◌, string_bytes, nat_lt}
use Rattle.std.specs.List.{AllByRecursion, list_all}
use Rattle.rtio_types.specs.declared.event.Event.{Event}
use Rattle.recording_bytes.specs.Spelling.{FitsFields}
use Rattle.core_analyzer.specs.Dumps.{Dumped}
use Rattle.core_analyzer.specs.Level.{level}
use Rattle.core_analyzer.specs.Waveform.{text_of_lines, waveform_text}
use Rattle.core_analyzer.specs.Running.{lines_behind}
use Rattle.core_analyzer.proofs.InOrder.{rising-on-board}
use Rattle.core_analyzer.proofs.Told.{level-told, text-written}
use Rattle.core_analyzer.proofs.waveform.vcd.Goals as goal

told-events : (c : goal.After-into_bytes) → c.deref.result.now ≡ c.args.dump.now.events
told-events c = c.deref.ensures.value ∙ ap (λ (d : Dumped). d.events) c.dump.view_is

pub write_events-requires : goal.write_events-requires
write_events-requires c =
    let events = c.deref.ensures.value ∙ ap (λ (d : Dumped). d.events) c.dump.view_is in
    subst (λ es. list_all (λ (event : Event). nat_lt event.channel 32) es ≡ true) (sym events) (rising-on-board c.args.dump.now.events c.requires)

is-text : (c : goal.After-into_bytes) → c.into_bytes.result.items ≡ waveform_text c.args.dump.now.events
is-text c =
    ap (λ (v : Vec ℕ Global). v.items) c.into_bytes.ensures.value
    ∙ text-written c.args.dump.now.events (string_bytes c.in_ok-text.text) (string_bytes c.write_first.new.text) (string_bytes c.write_events.new.text) c.requires
    c.in_ok-text.ensures.bytes c.in_ok-write_first.ensures
    (subst (λ (events : List Event). string_bytes c.write_events.new.text ≡ string_bytes c.write_first.new.text ++ text_of_lines (lines_behind (pos 0) events)) (told-events c) c.in_ok-write_events.ensures.written)

pub returns-clause-text : goal.returns-clause-text
returns-clause-text c = is-text c

pub returns-clause-level : goal.returns-clause-level
returns-clause-level c = λ channel time.
    ap (λ (bytes : List ℕ). level bytes channel time) (is-text c)
    ∙ level-told c.args.dump.now.events channel time c.requires (subst (AllByRecursion FitsFields) (told-events c) c.in_ok-write_events.ensures.fits)
