use Rattle.std.proofs.Common.{◌≡◌, true, arith, ◌∙◌}
use Rattle.std.proofs.lemmas.Bool.Decides.{nat_tests}
use lib.Utf8.{scalar}
use Rattle.rdf_text.specs.Classes.{is_scalar}
use Rattle.rdf_escapes.specs.Strings.{is_string_char}
use Rattle.rdf_text.proofs.Scalars.{is_scalar-scalar}
use Rattle.rdf_escapes.proofs.strings.is_string_char.Goals.{in-92, in_default}
use Rattle.rdf_escapes.proofs.strings.is_string_char.Goals as goal

pub returns-after-matches : goal.returns-after-matches
unfolding is_string_char
returns-after-matches c =
    let is : scalar c.args.c ≡ true = c.ranges.c.0 in
    let member : is_scalar c.args.c ≡ true = is_scalar-scalar c.args.c ∙ is in
    rw member (elim c.match-matches.branch [ in-92 w ↦ grind (arith, nat_tests) | in_default w ↦ grind (arith, nat_tests) ])
