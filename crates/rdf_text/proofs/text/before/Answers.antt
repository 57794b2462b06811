use Rattle.std.proofs.Common.{arith, length-append}
use Rattle.rdf_text.proofs.TextLemmas.{bytes_before_rest, cut_before_rest, chars-before}
use Rattle.rdf_text.proofs.text.before.Goals as goal

pub overflow_sub-text : goal.overflow_sub-text
overflow_sub-text c =
    let (front, split) = bytes_before_rest c.args.text.now c.args.rest.now c.utf8.text c.utf8.rest c.requires in
    rw split (omega (arith, length-append front c.args.rest.now))

pub split_at-requires : goal.split_at-requires
split_at-requires c =
    let (front, split) = bytes_before_rest c.args.text.now c.args.rest.now c.utf8.text c.utf8.rest c.requires in
    cut_before_rest c.args.text.now c.args.rest.now front split c.utf8.rest

pub returns : goal.returns
returns c =
    let (front, split) = bytes_before_rest c.args.text.now c.args.rest.now c.utf8.text c.utf8.rest c.requires in
    rw c.split_at.ensures.front (chars-before c.args.text.now c.args.rest.now front split c.utf8.text c.utf8.rest)
