use Rattle.std.proofs.Common.{◌≡◌, length, refl, arith}
use Rattle.std.proofs.lemmas.Option.{slice_get_read}
use Rattle.std.proofs.lemmas.Result.{IfOk-weaker, on_err_weaker}
use Rattle.lab_workers.proofs.at_desks.AtDesksRunner.run.Goals as goal

pub index-requires : goal.index-requires
index-requires g c =
    let there = c.requires.may.there in
    let items = c.args.self.now.desks.now.cores.ok.0 in
    omega (arith, there, items)

pub run_kernel_at-requires-clause-at : goal.run_kernel_at-requires-clause-at
run_kernel_at-requires-clause-at g c =
    c.requires.may.at c.index.result.now
    (slice_get_read c.args.self.now.desks.now.cores.items (length c.args.self.now.desks.now.cores.items) c.args.pipeline c.index.result.now refl
    c.requires.may.there c.index.ensures)

-- the chair at the pipeline's desk was used
pub returns-clause-ran : goal.returns-clause-ran
returns-clause-ran g c =
    IfOk-weaker c.run_kernel_at.result _ _
    (λ result ran. record {
      desk = c.index.result.now;
      at = slice_get_read c.args.self.now.desks.now.cores.items (length c.args.self.now.desks.now.cores.items) c.args.pipeline c.index.result.now refl
          c.requires.may.there c.index.ensures;
      number_is = c.requires.may.number_is;
      same = c.run_kernel_at.ensures.same;
      later = c.run_kernel_at.ensures.later;
      knows = c.run_kernel_at.ensures.knows;
      so = ran;
    })
    c.run_kernel_at.ensures.kernel

pub returns-clause-cut : goal.returns-clause-cut
returns-clause-cut g c =
    on_err_weaker c.run_kernel_at.result
    (λ left. record {
      desk = c.index.result.now;
      at = slice_get_read c.args.self.now.desks.now.cores.items (length c.args.self.now.desks.now.cores.items) c.args.pipeline c.index.result.now refl
          c.requires.may.there c.index.ensures;
      number_is = c.requires.may.number_is;
      same = c.run_kernel_at.ensures.same;
      later = c.run_kernel_at.ensures.later;
      knows = c.run_kernel_at.ensures.knows;
      so = left;
    })
    c.run_kernel_at.ensures.left
