use Rattle.std.proofs.Common.{length, List, subst, sym, ap, ◌∙◌}
use Rattle.std.proofs.lemmas.Result.{IfOk-weaker}
use Rattle.term_numbers.specs.Numbering.{Terms, Numbering}
use Rattle.term_numbers.specs.Order.{Numbered}
use Rattle.term_numbers.specs.held.Entries.{AreGroups}
use Rattle.term_numbers.specs.held.Numbered.{MayBeNumbered, AreByNumber, AreNumbersFor}
use Rattle.term_numbers.proofs.NumberingLaws.{Held, terms_held}
use Rattle.term_numbers.proofs.NumberLaws.{MayBeNumbered-group, numbering_is}
use Rattle.term_numbers.proofs.numbering.number_seen.Goals as goal

pub by_number-requires-clause-shared : goal.by_number-requires-clause-shared
by_number-requires-clause-shared c = MayBeNumbered-group c.args.nodes.now _ _ c.in_ok-groups.ensures.shared_are

pub by_number-requires-clause-subjects : goal.by_number-requires-clause-subjects
by_number-requires-clause-subjects c = MayBeNumbered-group c.args.nodes.now _ _ c.in_ok-groups.ensures.subjects_are

pub by_number-requires-clause-objects : goal.by_number-requires-clause-objects
by_number-requires-clause-objects c = MayBeNumbered-group c.args.nodes.now _ _ c.in_ok-groups.ensures.objects_are

pub by_number-requires-clause-predicates : goal.by_number-requires-clause-predicates
by_number-requires-clause-predicates c = subst (MayBeNumbered (length c.args.predicates.now)) (sym c.deref-2.ensures.value) (MayBeNumbered-group c.args.predicates.now _ _ c.in_ok-predicate_entries.ensures)

abbrev numbering_from : Terms → List Numbered → Numbering
numbering_from terms triples = record { terms = terms; triples = triples }

pub returns : goal.returns
unfolding terms_held
returns c = IfOk-weaker c.numbers_of.result _ (AreNumbersFor c.args.nodes.now c.args.predicates.now c.args.places.items) (λ numbers made_of ts seen.
    let s = c.in_ok-groups.groups.shared.items in
    let b = c.in_ok-groups.groups.subjects.items in
    let o = c.in_ok-groups.groups.objects.items in
    let e = c.in_ok-predicate_entries.predicate_entries.items in
    let held : Held c.args.nodes.now c.args.predicates.now c.args.places.items ts s b o e = record {
      seen = seen;
      nodes_differ = c.requires.nodes_differ;
      predicates_differ = c.requires.predicates_differ;
      groups = subst (λ ps. AreGroups c.args.nodes.now ps s b o) c.deref.ensures.value c.in_ok-groups.ensures;
      predicates = c.in_ok-predicate_entries.ensures;
    } in
    let made : AreByNumber s b o e c.args.places.items c.in_ok-triples.triples.items = subst (λ l. AreByNumber s b o l c.args.places.items c.in_ok-triples.triples.items) c.deref-2.ensures.value c.in_ok-triples.ensures in
    let is = numbering_is c.args.nodes.now c.args.predicates.now c.args.places.items ts s b o e c.in_ok-triples.triples.items held made in
    made_of ∙ ap (λ l. numbering_from (terms_held s b o l) c.in_ok-triples.triples.items) c.deref-3.ensures.value ∙ is) c.numbers_of.ensures
