-- What the text has before a statement, as the checker knows it.
use Rattle.std.specs.Prelude.{map, take}
use Rattle.kern_syntax.specs.TreeOf.{tree_of}
use Rattle.kern_expression_types.specs.declared.known.Known.{Known}
use Rattle.kern_expression_types.specs.Before.{Functions}

-- the functions that a statement may speak of
abbrev pub functions_of : Known → Functions
functions_of known =
    record {
      program = tree_of known.functions.now;
      callable = tree_of (take known.callable known.functions.now);
      plain = map (λ name. name.now) known.plain.now;
    }
