use Rattle.std.proofs.Common.{rules}
use Rattle.index_file.proofs.TermOrderLaws.{terms_are, groups_from_terms, apart_from_terms}
use Rattle.index_file.specs.steps.Groups.{terms_of_groups}
use Rattle.index_file.proofs.terms.are_terms.Goals as goal

pub returns-then-not-are_groups : goal.returns-then-not-are_groups
returns-then-not-are_groups c = (
  λ never. absurd (search rules),
  λ both. let held = c.are_groups.ensures.1 (groups_from_terms (terms_of_groups c.args.groups.now) both.0 both.1) in absurd cc,
)

pub returns : goal.returns
returns c =
    let groups = c.are_groups.ensures.0 (search rules) in
    let terms = terms_of_groups c.args.groups.now in
    (λ held. terms_are terms groups (c.are_nodes_apart.ensures.0 held), λ both. c.are_nodes_apart.ensures.1 (apart_from_terms terms both.1))
