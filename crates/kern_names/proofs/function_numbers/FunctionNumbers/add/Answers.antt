use Rattle.std.proofs.Common.{rules, ◌≡◌, sym}
use Rattle.kern_names.proofs.Entries.{added-named}
use Rattle.kern_names.proofs.function_numbers.FunctionNumbers.add.Goals as goal

pub returns : goal.returns
returns c =
    let key = c.in_ok-from_slice.field-0 in
    let items : key.items ≡ c.args.name.now = search rules in
    sym (added-named c.self.inside.numbers.entries c.insert.new.self.entries key c.args.name.now c.args.number c.args.self.now c.self.view_is items c.requires c.in_ok-insert.ensures.entries)
