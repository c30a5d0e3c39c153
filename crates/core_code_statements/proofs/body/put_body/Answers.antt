use Rattle.core_code_statements.proofs.body.put_body.Goals as goal

pub put_block-requires-clause-places : goal.put_block-requires-clause-places
put_block-requires-clause-places c = c.requires.places
