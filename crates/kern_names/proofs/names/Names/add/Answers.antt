use Rattle.std.proofs.Common.{rules, ◌≡◌, sym}
use Rattle.kern_names.proofs.Entries.{added-named}
use Rattle.kern_names.proofs.names.Names.add.Goals as goal

pub returns : goal.returns
returns c =
    let key = c.in_ok-key.key in
    let items : key.items ≡ c.args.name.now = search rules in
    sym (added-named c.self.inside.types.entries c.insert.new.self.entries key c.args.name.now c.args.kind c.args.self.now c.self.view_is items c.requires c.in_ok-insert.ensures.entries)
