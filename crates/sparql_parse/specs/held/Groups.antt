-- Carries proofs only: the groups of the code, as they are computed.
use Rattle.std.specs.Prelude.{map, reverse}
use Rattle.alg_model.specs.Pattern.{algebra_of}
use Rattle.sparql_parse.specs.declared.group.OpenGroup.{OpenGroup as CodeGroup}
use Rattle.sparql_parse.specs.declared.group.Body.{Body as CodeBody}
use Rattle.sparql_parse.specs.computed.Building.{OpenGroup, Body}

abbrev pub group_in : CodeGroup → OpenGroup
group_in g = record { pattern = algebra_of g.pattern; block = g.block; optional = g.optional }

-- the innermost group is the last of the code's
abbrev pub body_in : CodeBody → Body
body_in b = record { groups = reverse (map group_in b.groups.items); next = b.next; whole = algebra_of b.whole }
