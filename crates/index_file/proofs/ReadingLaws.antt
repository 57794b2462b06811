-- Bytes of which the conditions hold are the image of the graph that they stand for.
use Rattle.std.proofs.Common.{◌≡◌, ℕ, ◌+◌, ◌*◌, ◌^◌, ◌<◌, ◌≤◌, ◌⊎◌, inl, inr, List, [], ◌++◌, length, get_or, drop, map, All, Contains, refl, sym, ap, ◌∙◌, subst, arith}
use Rattle.std.proofs.lemmas.Bool.{cases_lt}
use Rattle.std.proofs.lemmas.List.{length-map, map-append, get_or_past}
use Rattle.std.proofs.lemmas.List.Elements.{All-take, All-drop}
use Rattle.std.specs.List.Sorted.{IsStrictlySortedBy}
use Rattle.bm_term.specs.SetOf.{IsSetOf, set_of}
use Rattle.bm_term.proofs.Elements.{Contains-nil}
use Rattle.byte_tables.specs.Numbers.{IsBytes}
use Rattle.byte_tables.proofs.NumberLaws.{IsBytes-drop}
use Rattle.run_rows.specs.declared.form.RowForm.{RowForm}
use Rattle.term_numbers.specs.Order.{Numbered, number_cmp}
use Rattle.term_numbers.specs.Numbering.{Terms, Numbering, numbering_of}
use Rattle.term_numbers.proofs.Ascending.{number_cmp-total, number_cmp-exact, set_of-is, has_all, length_of_same, length-set_of}
use Rattle.index_file.proofs.FamilyLaws.{family_cmp, family_cmp-total, family_cmp-exact, pair_of_triple, triple_of_pair, ascends-triples_from, slices_of-same, slice_again}
use Rattle.index_file.proofs.GroupLaws.{term_table-terms_in, slices-group_in, TermCounts, TermCounts-terms_in, length-all_subjects, length-all_objects, length-group_in}
use Rattle.index_file.proofs.LayoutLaws.{IsReadWhole-laid_out}
use Rattle.index_file.specs.LaidOut.{CanBeLaidOut, IsLaidOut}
use Rattle.index_file.proofs.NamingLaws.{UseAll, graph_named, numbering_of-graph_named}
use Rattle.index_file.proofs.SlicePairLaws.{AreRead, AreRead-slices, bytes_of_pieces}
use Rattle.index_file.specs.Families.{slice_number, pair_of, triple_at, slices_of}
use Rattle.index_file.specs.Layout.{Layout, field, text_count, slice_count, after_head, after_starts, after_texts, slice_part, slice_starts, layout_bytes, layout_in}
use Rattle.index_file.specs.Image.{slices_for, family_pairs, all_pairs, pair_slice, layout_of, image_of, terms_in, group_in, slice_pairs, triples_in, graph_in}
use Rattle.index_file.specs.Conditions.{AreOrdered, rows_for, columns_for, RowsAreEncodings, CountsAgree, FamiliesAgree, IsIndex}
use Rattle.index_file.specs.declared.family.Family.{Family}
use Rattle.index_file.specs.declared.family.Family.TheVariants.{So, Os, Ps, Po}

-- what is read of a layout: its parts fit together, and the conditions on terms, rows, counts and agreement hold
pub record IsRead (form : RowForm) (l : Layout) : Type 0 where
  pub can : CanBeLaidOut l
  pub bytes : All IsBytes l.slices
  pub ordered : AreOrdered (terms_in l)
  pub rows : RowsAreEncodings form l
  pub counts : CountsAgree form l
  pub agreement : FamiliesAgree form l

-- a slice that has a pair is one of the slices
pub slice_there : {X : Type 0} (xss : List (List X)) (k : ℕ) (x : X) → Contains (get_or xss k []) x → k < length xss
slice_there xss k x there = by (cases_lt k (length xss))
  where
    by : (k < length xss) ⊎ (length xss ≤ k) → k < length xss
    by (inl low) = low
    by (inr past) = absurd (Contains-nil x (subst (λ l. Contains l x) (get_or_past xss k [] past) there))

module _ (form : RowForm) (l : Layout) (bytes : All IsBytes l.slices) (rows : RowsAreEncodings form l) where
  pub group_bytes : (f : Family) → All IsBytes (group_in l f)
  group_bytes So = All-take IsBytes l.predicates l.slices bytes
  group_bytes Os = All-take IsBytes l.predicates (drop l.predicates l.slices) (All-drop IsBytes l.predicates l.slices bytes)
  group_bytes Ps = All-take IsBytes (l.shared + l.objects) (drop (2 * l.predicates) l.slices) (All-drop IsBytes (2 * l.predicates) l.slices bytes)
  group_bytes Po = All-drop IsBytes (2 * l.predicates + (l.shared + l.objects)) l.slices bytes

  -- the pairs of a family
  pub group_read : (f : Family) → AreRead form (rows_for l f) (columns_for l f) (group_in l f)
  group_read f = AreRead-slices form (rows_for l f) (columns_for l f) (group_in l f) (group_bytes f) (rows f)

  -- its triples ascend
  pub triples_ascend : (f : Family) → IsStrictlySortedBy (family_cmp f) (triples_in form l f)
  triples_ascend f = ascends-triples_from f 0 (map (slice_pairs form) (group_in l f)) (group_read f).ascend

module _ (form : RowForm) (l : Layout) (read : IsRead form l) where
  abbrev terms : Terms
  terms = terms_in l

  abbrev pairs : Family → List (List (ℕ × ℕ))
  pairs f = map (slice_pairs form) (group_in l f)

  -- the triples of the first family, by which the graph is named
  abbrev first : List Numbered
  first = triples_in form l So

  counted : TermCounts terms l
  counted = TermCounts-terms_in l read.can

  pairs_read : (f : Family) → AreRead form (rows_for l f) (columns_for l f) (group_in l f)
  pairs_read f = group_read form l read.bytes read.rows f

  as_many_slices : (f : Family) → length (pairs f) ≡ slices_for f terms
  as_many_slices f = length-map (group_in l f) (slice_pairs form) ∙ length-group_in l read.can terms counted f

  first_ascends : IsStrictlySortedBy (family_cmp So) first
  first_ascends = triples_ascend form l read.bytes read.rows So

  -- each family has the triples of the first, and no more
  no_more : (f : Family) (t : Numbered) → Contains (triples_in form l f) t → Contains first t
  no_more f t there = has_all (family_cmp So) (family_cmp-total So) (family_cmp-exact So) first (triples_in form l f) first_ascends (read.agreement f) (omega (arith, read.counts f, read.counts So)) t there

  -- a term is used: its slice has a pair
  used : (f : Family) (n : ℕ) → n < slices_for f terms → (t : Numbered) × Contains first t × (slice_number f t ≡ n)
  used f n low =
      let inside : n < length (group_in l f) = omega (arith, low, length-group_in l read.can terms counted f) in
      let p = (pairs_read f).some n inside in
      let zero_more : 0 + n ≡ n = omega arith in
      (triple_at f (0 + n) p.0, no_more f (triple_at f (0 + n) p.0) (triple_of_pair f 0 (pairs f) n p.0 p.1), slice_again f (0 + n) p.0 ∙ zero_more)

  pub all_used : UseAll terms first
  all_used = record {
    subject = λ t there. let k = pair_of_triple So 0 (pairs So) t there in omega (arith, ((pairs_read So).within k.0 (pair_of So t) k.2).0, length-all_subjects terms, counted.shared, counted.subjects);
    predicate = λ t there. let k = pair_of_triple So 0 (pairs So) t there in omega (arith, k.1, slice_there (pairs So) k.0 (pair_of So t) k.2, as_many_slices So);
    object = λ t there. let k = pair_of_triple So 0 (pairs So) t there in omega (arith, ((pairs_read So).within k.0 (pair_of So t) k.2).1, length-all_objects terms, counted.shared, counted.objects);
    each_subject = λ n low. used Po n low;
    each_predicate = λ n low. used So n low;
    each_object = λ n low. used Ps n low;
  }

  abbrev in_order : List Numbered
  in_order = set_of number_cmp first

  in_order_is : IsSetOf number_cmp first in_order
  in_order_is = set_of-is number_cmp number_cmp-total number_cmp-exact first

  -- as many triples in order as are written
  pub count_in_order : length in_order ≡ l.triples
  count_in_order = omega (arith, length-set_of number_cmp first, length_of_same (family_cmp So) (family_cmp-total So) (family_cmp-exact So) first in_order first_ascends (λ t there. (in_order_is.same t).1 there), read.counts So)

  abbrev numbering : Numbering
  numbering = record { terms = terms; triples = in_order }

  pub pairs_again : (f : Family) → family_pairs numbering f ≡ pairs f
  pairs_again f =
      ap (λ n. slices_of f 0 n in_order) (sym (as_many_slices f))
      ∙ slices_of-same f (pairs f) in_order (pairs_read f).ascend (λ t. (
        λ there. read.agreement f t ((in_order_is.same t).0 there),
        λ there. (in_order_is.same t).1 (no_more f t there),
      ))

  group_again : (f : Family) → map (pair_slice form) (family_pairs numbering f) ≡ group_in l f
  group_again f = ap (map (pair_slice form)) (pairs_again f) ∙ (pairs_read f).again

  slices_written : map (pair_slice form) (all_pairs numbering) ≡ l.slices
  slices_written =
      let f = pair_slice form in
      let so = family_pairs numbering So in
      let os = family_pairs numbering Os in
      let ps = family_pairs numbering Ps in
      let po = family_pairs numbering Po in
      map-append f so (os ++ (ps ++ po))
      ∙ ap (λ r. map f so ++ r) (map-append f os (ps ++ po))
      ∙ ap (λ r. map f so ++ (map f os ++ r)) (map-append f ps po)
      ∙ (λ i. group_again So i ++ (group_again Os i ++ (group_again Ps i ++ group_again Po i)))
      ∙ slices-group_in l

  pub numbering_read : numbering_of (graph_named (terms_in l) (triples_in form l So)) ≡ record { terms = terms_in l; triples = set_of number_cmp (triples_in form l So) }
  numbering_read = numbering_of-graph_named terms first read.ordered all_used

  -- the graph that is named has this layout
  pub layout_read : layout_of l.version form (numbering_of (graph_named (terms_in l) (triples_in form l So))) ≡ l
  layout_read =
      ap (layout_of l.version form) numbering_read
      ∙ (λ i. record {
        version = l.version;
        shared = counted.shared i;
        subjects = counted.subjects i;
        objects = counted.objects i;
        predicates = counted.predicates i;
        triples = count_in_order i;
        texts = term_table-terms_in l i;
        slices = slices_written i;
      })

-- ---- of bytes

-- slices of bytes are bytes
pub slices_are_bytes : (bytes : List ℕ) → IsBytes bytes → All IsBytes (layout_in bytes).slices
unfolding layout_in
slices_are_bytes bytes fits =
    bytes_of_pieces (slice_starts bytes) (slice_part bytes)
    (IsBytes-drop (4 * (slice_count bytes + 1)) (after_texts bytes) (IsBytes-drop (field bytes 6) (after_starts bytes) (IsBytes-drop (4 * (text_count bytes + 1)) (after_head bytes) (IsBytes-drop 36 (drop 8 bytes) (IsBytes-drop 8 bytes fits)))))

version_read : (bytes : List ℕ) → (layout_in bytes).version ≡ field bytes 0
unfolding layout_in
version_read bytes = refl

pub laid_out : (version : ℕ) (form : RowForm) (bytes : List ℕ) → IsIndex version form bytes → IsLaidOut version bytes
laid_out version form bytes index = record { header = index.header; lengths = index.lengths; texts = index.terms.cut; slices = index.directory }

pub IsRead-index : (version : ℕ) (form : RowForm) (bytes : List ℕ) → version < 2 ^ 32 → IsBytes bytes → IsIndex version form bytes → IsRead form (layout_in bytes)
IsRead-index version form bytes small fits index = record {
  can = (IsReadWhole-laid_out version bytes small fits (laid_out version form bytes index)).can;
  bytes = slices_are_bytes bytes fits;
  ordered = index.terms.ordered;
  rows = index.rows;
  counts = index.counts;
  agreement = index.agreement;
}

-- bytes of which the conditions hold are the image of their graph
pub image_of-graph_in : (version : ℕ) (form : RowForm) (bytes : List ℕ) → version < 2 ^ 32 → IsBytes bytes → IsIndex version form bytes → image_of version form (graph_in form bytes) ≡ bytes
image_of-graph_in version form bytes small fits index =
    let whole = IsReadWhole-laid_out version bytes small fits (laid_out version form bytes index) in
    let known : version ≡ (layout_in bytes).version = sym (version_read bytes ∙ index.header.known) in
    ap (λ v. image_of v form (graph_in form bytes)) known
    ∙ ap layout_bytes (layout_read form (layout_in bytes) (IsRead-index version form bytes small fits index))
    ∙ whole.again
