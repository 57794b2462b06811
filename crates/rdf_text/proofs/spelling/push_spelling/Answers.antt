use Rattle.std.proofs.Common.{arith}
use Rattle.std.proofs.lemmas.Grind.{common_steps}
use Rattle.rdf_text.proofs.Unescaping.{encode-escape}
use Rattle.rdf_text.proofs.spelling.push_spelling.Goals as goal

pub returns-in-Some-clause-ok : goal.returns-in-Some-clause-ok
returns-in-Some-clause-ok c =
    rw (encode-escape c.args.c c.in-Some.escape.now c.in-Some.ensures) (grind (arith, common_steps))
