use Rattle.std.proofs.Common.{ap, sym, ◌∙◌, arith, Some, ◌+◌, ◌*◌, ◌<◌, ◌≤◌, ◌^◌, length, w64}
use Rattle.std.proofs.lemmas.Int.{to_z_pos}
use Rattle.dma_store.specs.Kept.{handle_of}
use Rattle.dma_store.proofs.Entries.{handle_of-found, handle_of-missing}
use Rattle.dma_store.proofs.store.Store.handle.Goals as goal

pub returns-in-Some-clause-value : goal.returns-in-Some-clause-value
returns-in-Some-clause-value c =
    let found = handle_of-found c.self.inside.recordings.entries c.self.inside.epoch c.args.name.now c.in-Some.position (sym c.get_index_of.ensures.index ∙ c.in-Some.is) in
    let few : length c.self.inside.recordings.entries ≤ 4096 = c.self.invariant.few in
    let early : c.self.inside.epoch < 2 ^ 50 = c.self.invariant.in_range in
    let within : c.in-Some.position < length c.self.inside.recordings.entries = c.in-Some.ensures.within in
    let fits : c.self.inside.epoch * 4096 + c.in-Some.position < 2 ^ 63 = omega arith in
    ap Some (to_z_pos w64 _ fits) ∙ sym found ∙ ap (λ kept. handle_of kept c.args.name.now) c.self.view_is

pub returns-in-None-clause-value : goal.returns-in-None-clause-value
returns-in-None-clause-value c =
    let missing = handle_of-missing c.self.inside.recordings.entries c.self.inside.epoch c.args.name.now (sym c.get_index_of.ensures.index ∙ c.in-None.is) in
    sym missing ∙ ap (λ kept. handle_of kept c.args.name.now) c.self.view_is
