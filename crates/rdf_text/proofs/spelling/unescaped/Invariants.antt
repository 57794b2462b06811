use Rattle.std.proofs.Common.{◌≡◌, ◌++◌, length}
use Rattle.rdf_text.specs.Spelling.{unescaped}
use Rattle.rdf_text.proofs.spelling.unescaped.Given as goal

abbrev pub invariant-loop-byte : goal.invariant-loop-byte
invariant-loop-byte l = l.form.items ++ unescaped l.rest ≡ unescaped l.body

abbrev pub decreases-loop-byte : goal.decreases-loop-byte
decreases-loop-byte l = length l.rest
