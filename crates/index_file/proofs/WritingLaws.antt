-- The conditions hold of the image of a graph, and the bytes stand for that graph.
use Rattle.std.proofs.Common.{◌≡◌, ℕ, ◌+◌, ◌^◌, ◌<◌, List, [], ◌∷◌, ◌++◌, length, get_or, map, Contains, refl, sym, ap, ◌∙◌, subst, arith, length-append}
use Rattle.std.proofs.lemmas.List.{length-map, map-append}
use Rattle.std.specs.List.Sorted.{IsStrictlySortedBy}
use Rattle.bm_term.specs.Graph.{triple_cmp}
use Rattle.bm_term.specs.declared.triple.Triple.{Triple}
use Rattle.bm_term.proofs.TripleOrder.{triple_cmp-total, triple_cmp-exact}
use Rattle.byte_tables.specs.Pieces.{joined}
use Rattle.run_rows.specs.declared.form.RowForm.{RowForm}
use Rattle.term_numbers.specs.Order.{Numbered, number_cmp}
use Rattle.term_numbers.specs.Numbering.{Numbering, terms_of, named, numbers_in, numbering_of}
use Rattle.term_numbers.proofs.Ascending.{number_cmp-total, number_cmp-exact, set_of-is, set_of-same, length_of_same}
use Rattle.term_numbers.proofs.NumberLaws.{as_many}
use Rattle.term_numbers.proofs.NumberingLaws.{map-same}
use Rattle.index_file.proofs.FamilyLaws.{family_cmp, family_cmp-total, family_cmp-exact, pair_of_triple, triple_of_pair, ascends-triples_from, ascends-slices_of, length-slices_of, from_slices_of, to_slices_of}
use Rattle.index_file.proofs.GroupLaws.{TermCounts, length-all_subjects, length-all_objects, terms_in-table, group_in-families}
use Rattle.index_file.proofs.LayoutLaws.{length-layout_bytes, layout_in-layout_bytes, IsLaidOut-layout_bytes}
use Rattle.index_file.specs.LaidOut.{CanBeLaidOut, IsLaidOut}
use Rattle.index_file.proofs.NamingLaws.{UseAll, graph_named}
use Rattle.index_file.proofs.SlicePairLaws.{AreFull, AreWritten, AreWritten-pairs, HaveBytes-slices}
use Rattle.index_file.proofs.StoredLaws.{AreCanonical-terms_of, HaveBytes-terms}
use Rattle.index_file.proofs.TermGroupLaws.{AreOrdered-terms_of, UseAll-numbering_of, graph_named-numbering_of}
use Rattle.index_file.specs.Families.{slice_number, pair_of, triple_at, triples_from}
use Rattle.index_file.specs.Layout.{Layout, layout_bytes, layout_in}
use Rattle.index_file.specs.Image.{slices_for, family_pairs, all_pairs, pair_slice, layout_of, image_of, terms_in, group_in, slice_pairs, triples_in, graph_in}
use Rattle.index_file.specs.Conditions.{AreCanonical, AreOrdered, rows_for, columns_for, AreSlices, RowsAreEncodings, CountsAgree, FamiliesAgree, IsIndex, IsStorable}
use Rattle.index_file.specs.declared.family.Family.{Family}
use Rattle.index_file.specs.declared.family.Family.TheVariants.{So, Os, Ps, Po}

pub length-joined : (xs ys : List (List ℕ)) → length (joined (xs ++ ys)) ≡ length (joined xs) + length (joined ys)
length-joined [] ys = omega arith
length-joined (x ∷ xs) ys = omega (arith, length-append x (joined (xs ++ ys)), length-append x (joined xs), length-joined xs ys)

-- a numbering whose terms are ordered, canonical and used, and that can be laid out
record CanBeWritten (version : ℕ) (form : RowForm) (n : Numbering) : Type 0 where
  can : CanBeLaidOut (layout_of version form n)
  canonical : AreCanonical n.terms
  ordered : AreOrdered n.terms
  use_all : UseAll n.terms n.triples
  ascends : IsStrictlySortedBy number_cmp n.triples

module _ (version : ℕ) (form : RowForm) (n : Numbering) (written : CanBeWritten version form n) where
  abbrev l : Layout
  l = layout_of version form n

  abbrev groups : Family → List (List ℕ)
  groups f = map (pair_slice form) (family_pairs n f)

  back : layout_in (layout_bytes l) ≡ l
  back = layout_in-layout_bytes l written.can

  counted : TermCounts n.terms l
  counted = record { shared = refl; subjects = refl; objects = refl; predicates = refl }

  terms_again : terms_in l ≡ n.terms
  terms_again = terms_in-table n.terms l counted refl

  length-pairs : (f : Family) → length (family_pairs n f) ≡ slices_for f n.terms
  length-pairs f = length-slices_of f 0 (slices_for f n.terms) n.triples

  length-groups : (f : Family) → length (groups f) ≡ slices_for f n.terms
  length-groups f = length-map (family_pairs n f) (pair_slice form) ∙ length-pairs f

  slices_are : l.slices ≡ groups So ++ (groups Os ++ (groups Ps ++ groups Po))
  slices_are =
      let f = pair_slice form in
      map-append f (family_pairs n So) (family_pairs n Os ++ (family_pairs n Ps ++ family_pairs n Po))
      ∙ ap (λ r. groups So ++ r) (map-append f (family_pairs n Os) (family_pairs n Ps ++ family_pairs n Po))
      ∙ ap (λ r. groups So ++ (groups Os ++ r)) (map-append f (family_pairs n Ps) (family_pairs n Po))

  group_again : (f : Family) → group_in l f ≡ groups f
  group_again f = group_in-families l groups (length-groups So) (length-groups Os) (length-groups Ps ∙ length-all_objects n.terms) slices_are f

  -- the numbers of a triple are within the rows and columns
  bounds : (f : Family) (t : Numbered) → Contains n.triples t → ((pair_of f t).0 < rows_for l f) × ((pair_of f t).1 < columns_for l f)
  bounds So t there = (omega (arith, written.use_all.subject t there, length-all_subjects n.terms), omega (arith, written.use_all.object t there, length-all_objects n.terms))
  bounds Os t there = (omega (arith, written.use_all.object t there, length-all_objects n.terms), omega (arith, written.use_all.subject t there, length-all_subjects n.terms))
  bounds Ps t there = (written.use_all.predicate t there, omega (arith, written.use_all.subject t there, length-all_subjects n.terms))
  bounds Po t there = (written.use_all.predicate t there, omega (arith, written.use_all.object t there, length-all_objects n.terms))

  in_slices : (f : Family) (t : Numbered) → Contains n.triples t → slice_number f t < slices_for f n.terms
  in_slices So t there = written.use_all.predicate t there
  in_slices Os t there = written.use_all.predicate t there
  in_slices Ps t there = written.use_all.object t there
  in_slices Po t there = written.use_all.subject t there

  each : (f : Family) (k : ℕ) → k < slices_for f n.terms → (t : Numbered) × Contains n.triples t × (slice_number f t ≡ k)
  each So k low = written.use_all.each_predicate k low
  each Os k low = written.use_all.each_predicate k low
  each Ps k low = written.use_all.each_object k low
  each Po k low = written.use_all.each_subject k low

  -- each family has just the triples
  to_family : (f : Family) (t : Numbered) → Contains n.triples t → Contains (triples_from f 0 (family_pairs n f)) t
  to_family f t there = to_slices_of f 0 (slices_for f n.terms) n.triples t there (omega arith) (omega (arith, in_slices f t there))

  from_family : (f : Family) (t : Numbered) → Contains (triples_from f 0 (family_pairs n f)) t → Contains n.triples t
  from_family f t there = from_slices_of f 0 (slices_for f n.terms) n.triples t there

  full : (f : Family) → AreFull (rows_for l f) (columns_for l f) (family_pairs n f)
  full f = record {
    ascend = ascends-slices_of f 0 (slices_for f n.terms) n.triples;
    within = λ k p there. inside f k p (bounds f (triple_at f (0 + k) p) (from_family f (triple_at f (0 + k) p) (triple_of_pair f 0 (family_pairs n f) k p there)));
    some = λ k low.
        let t = each f k (omega (arith, low, length-pairs f)) in
        let found = pair_of_triple f 0 (family_pairs n f) t.0 (to_family f t.0 t.1) in
        let place : found.0 ≡ k = omega (arith, found.1, t.2) in
        (pair_of f t.0, subst (λ j. Contains (get_or (family_pairs n f) j []) (pair_of f t.0)) place found.2);
  }
    where
      inside : (f : Family) (k : ℕ) (p : ℕ × ℕ) → ((pair_of f (triple_at f (0 + k) p)).0 < rows_for l f) × ((pair_of f (triple_at f (0 + k) p)).1 < columns_for l f) → (p.0 < rows_for l f) × (p.1 < columns_for l f)
      inside So k p h = h
      inside Os k p h = h
      inside Ps k p h = h
      inside Po k p h = h

  -- there are fewer rows, columns and bytes than four bytes can tell
  few_rows : (f : Family) → (rows_for l f < 2 ^ 32) × (columns_for l f < 2 ^ 32)
  few_rows So = let texts = written.can.texts in let short = written.can.short in (omega arith, omega arith)
  few_rows Os = let texts = written.can.texts in let short = written.can.short in (omega arith, omega arith)
  few_rows Ps = let texts = written.can.texts in let short = written.can.short in (omega arith, omega arith)
  few_rows Po = let texts = written.can.texts in let short = written.can.short in (omega arith, omega arith)

  all_bytes : length (joined l.slices) ≡ length (joined (groups So)) + (length (joined (groups Os)) + (length (joined (groups Ps)) + length (joined (groups Po))))
  all_bytes =
      ap (λ ss. length (joined ss)) slices_are
      ∙ omega (arith, length-joined (groups So) (groups Os ++ (groups Ps ++ groups Po)), length-joined (groups Os) (groups Ps ++ groups Po), length-joined (groups Ps) (groups Po))

  short_group : (f : Family) → length (joined (groups f)) < 2 ^ 32
  short_group So = let short = written.can.short in omega (arith, all_bytes)
  short_group Os = let short = written.can.short in omega (arith, all_bytes)
  short_group Ps = let short = written.can.short in omega (arith, all_bytes)
  short_group Po = let short = written.can.short in omega (arith, all_bytes)

  family_written : (f : Family) → AreWritten form (rows_for l f) (columns_for l f) (family_pairs n f)
  family_written f = AreWritten-pairs form (rows_for l f) (columns_for l f) (family_pairs n f) (few_rows f).0 (few_rows f).1 (short_group f) (full f)

  triples_again : (f : Family) → triples_in form l f ≡ triples_from f 0 (family_pairs n f)
  triples_again f = ap (λ ss. triples_from f 0 (map (slice_pairs form) ss)) (group_again f) ∙ ap (triples_from f 0) (family_written f).again

  count_again : (f : Family) → length (triples_from f 0 (family_pairs n f)) ≡ length n.triples
  count_again f = omega (
    arith,
    length_of_same (family_cmp f) (family_cmp-total f) (family_cmp-exact f) (triples_from f 0 (family_pairs n f)) n.triples (ascends-triples_from f 0 (family_pairs n f) (full f).ascend) (from_family f),
    length_of_same number_cmp number_cmp-total number_cmp-exact n.triples (triples_from f 0 (family_pairs n f)) written.ascends (to_family f),
  )

  rows_hold : RowsAreEncodings form l
  rows_hold f = subst (AreSlices form (rows_for l f) (columns_for l f)) (sym (group_again f)) (family_written f).are

  counts_hold : CountsAgree form l
  counts_hold f = ap length (triples_again f) ∙ count_again f

  agreement_holds : FamiliesAgree form l
  agreement_holds f t there = subst (λ ts. Contains ts t) (sym (triples_again f)) (to_family f t (from_family So t (subst (λ ts. Contains ts t) (triples_again So) there)))

  -- all conditions hold of what was laid out
  IsIndex-numbering : IsIndex version form (layout_bytes l)
  IsIndex-numbering =
      let laid : IsLaidOut version (layout_bytes l) = IsLaidOut-layout_bytes l written.can in
      let terms : n.terms ≡ terms_in (layout_in (layout_bytes l)) = sym terms_again ∙ ap terms_in (sym back) in
      record {
        header = laid.header;
        lengths = laid.lengths;
        terms = record { cut = laid.texts; canonical = subst AreCanonical terms written.canonical; ordered = subst AreOrdered terms written.ordered };
        directory = laid.slices;
        rows = subst (RowsAreEncodings form) (sym back) rows_hold;
        counts = subst (CountsAgree form) (sym back) counts_hold;
        agreement = subst (FamiliesAgree form) (sym back) agreement_holds;
      }

  -- and the bytes stand for what the numbering names
  graph_in-numbering : graph_in form (layout_bytes l) ≡ graph_named n.terms n.triples
  graph_in-numbering =
      ap (λ m. graph_named (terms_in m) (triples_in form m So)) back
      ∙ (λ i. graph_named (terms_again i) (triples_again So i))
      ∙ set_of-same triple_cmp triple_cmp-total triple_cmp-exact (map (named n.terms) (triples_from So 0 (family_pairs n So))) (map (named n.terms) n.triples)
      (map-same (named n.terms) (triples_from So 0 (family_pairs n So)) n.triples (λ t. (from_family So t, to_family So t)))

-- ---- the numbering of a graph can be written

layout_can : (version : ℕ) (form : RowForm) (g : List Triple) → version < 2 ^ 32 → IsStorable version form g → CanBeLaidOut (layout_of version form (numbering_of g))
layout_can version form g small stored =
    let n = numbering_of g in
    let l = layout_of version form n in
    let terms = terms_of g in
    let so = family_pairs n So in
    let os = family_pairs n Os in
    let ps = family_pairs n Ps in
    let po = family_pairs n Po in
    let long : (f : Family) → length (family_pairs n f) ≡ slices_for f terms = λ f. length-slices_of f 0 (slices_for f terms) n.triples in
    record {
      texts = omega (arith, length-append terms.shared (terms.subjects ++ (terms.objects ++ terms.predicates)), length-append terms.subjects (terms.objects ++ terms.predicates), length-append terms.objects terms.predicates);
      slices = omega (arith, length-map (all_pairs n) (pair_slice form), length-append so (os ++ (ps ++ po)), length-append os (ps ++ po), length-append ps po, long So, long Os, long Ps, long Po, length-all_subjects terms, length-all_objects terms);
      have_texts = HaveBytes-terms terms (AreCanonical-terms_of g stored.triples);
      have_slices = HaveBytes-slices form (all_pairs n);
      known = small;
      few = omega (arith, as_many g stored.ascends, stored.few);
      short = subst (λ k. k < 2 ^ 32) (length-layout_bytes l) stored.short;
    }

can_be_written : (version : ℕ) (form : RowForm) (g : List Triple) → version < 2 ^ 32 → IsStorable version form g → CanBeWritten version form (numbering_of g)
can_be_written version form g small stored = record {
  can = layout_can version form g small stored;
  canonical = AreCanonical-terms_of g stored.triples;
  ordered = AreOrdered-terms_of g;
  use_all = UseAll-numbering_of g;
  ascends = (set_of-is number_cmp number_cmp-total number_cmp-exact (map (numbers_in (terms_of g)) g)).ascends;
}

-- the conditions hold of the image of a graph
pub IsIndex-image_of : (version : ℕ) (form : RowForm) (g : List Triple) → version < 2 ^ 32 → IsStorable version form g → IsIndex version form (image_of version form g)
IsIndex-image_of version form g small stored = IsIndex-numbering version form (numbering_of g) (can_be_written version form g small stored)

-- and the image stands for the graph
pub graph_in-image_of : (version : ℕ) (form : RowForm) (g : List Triple) → version < 2 ^ 32 → IsStorable version form g → graph_in form (image_of version form g) ≡ g
graph_in-image_of version form g small stored = graph_in-numbering version form (numbering_of g) (can_be_written version form g small stored) ∙ graph_named-numbering_of g stored.ascends
