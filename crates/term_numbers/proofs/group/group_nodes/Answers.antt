use Rattle.std.proofs.Common.{sym, subst, length}
use Rattle.term_numbers.specs.held.Seen.{AreRoles}
use Rattle.term_numbers.proofs.EntryLaws.{AreGroups-sorted}
use Rattle.term_numbers.proofs.group.group_nodes.Goals as goal

pub returns : goal.returns
returns c = AreGroups-sorted c.args.nodes.now c.args.triples.now c.deref.result.now _ _ _ _ _ _ c.requires.differ
    (subst (AreRoles c.args.triples.now (length c.args.nodes.now)) (sym c.deref.ensures.value) c.in_ok-roles.ensures) c.in_ok-groups.ensures
    c.in_ok-sorted.ensures.same c.in_ok-sorted.ensures.sorted c.in_ok-sorted-2.ensures.same c.in_ok-sorted-2.ensures.sorted c.in_ok-sorted-3.ensures.same c.in_ok-sorted-3.ensures.sorted
