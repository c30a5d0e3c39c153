use Rattle.std.proofs.Common.{◌<◌, length, arith}
use Rattle.kern_lexer.specs.Symbols.{lexemes_of}
use Rattle.kern_accepted.proofs.Kernels.{fault-within, first-of-end, no-tree}
use Rattle.kern_accepted.proofs.reading.typed_of.Goals as goal

pub returns-in-Err-Fault-parse-clause-end : goal.returns-in-Err-Fault-parse-clause-end
returns-in-Err-Fault-parse-clause-end c =
    let lexed = rw (← c.deref.ensures.value) at c.in-Ok.ensures.tokens in
    let first = first-of-end (lexemes_of c.args.text.now c.deref.result.now) c.in-Err-Fault-parse.field-0 c.in-Err-Fault-parse.token c.in-Err-Fault-parse.field-0-is c.in-Err-Fault-parse.ensures.fault in
    let found = rw c.in-Err-Fault-parse.token-is at c.index.ensures in
    rw c.in-Err-Fault-parse.token-is (no-tree c.args.text.now c.deref.result.now c.in-Err-Fault-parse.token c.index.result.now lexed first (rw c.deref.ensures.value found))

pub index-requires : goal.index-requires
index-requires c =
    let first = first-of-end (lexemes_of c.args.text.now c.deref.result.now) c.in-Err-Fault-parse.field-0 c.in-Err-Fault-parse.token c.in-Err-Fault-parse.field-0-is c.in-Err-Fault-parse.ensures.fault in
    let within : c.in-Err-Fault-parse.token < length c.deref.result.now = fault-within c.args.text.now c.deref.result.now c.in-Err-Fault-parse.token first in
    let long = c.deref.ensures.len in
    omega (arith, within, long)
