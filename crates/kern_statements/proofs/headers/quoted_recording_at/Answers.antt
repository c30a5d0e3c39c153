use Rattle.kern_grammar.proofs.SpelledLists.{first_quotable}
use Rattle.kern_statements.proofs.headers.quoted_recording_at.Goals as goal

pub quoted_name-name-requires : goal.quoted_name-name-requires
quoted_name-name-requires c =
    first_quotable c.args.tokens.text.now c.args.tokens.list.now _ c.in-len1-up.len_at_least c.args.tokens.spelled c.in-Text.is
