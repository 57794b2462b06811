use Rattle.std.proofs.Common.{rules}
use Rattle.index_file.proofs.terms.are_nodes_apart.Goals as goal

pub returns : goal.returns
returns c =
    let subjects = c.are_apart.ensures.0 (search rules) in
    let objects = c.are_apart-2.ensures.0 (search rules) in (
      λ held. record { from_subjects = subjects; from_objects = objects; alone = c.are_apart-3.ensures.0 held },
      λ apart. c.are_apart-3.ensures.1 apart.alone,
    )
