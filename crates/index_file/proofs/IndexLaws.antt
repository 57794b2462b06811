-- Laws of an index: what its conditions say of the layout that is read.
use Rattle.std.proofs.Common.{◌≡◌, ℕ, ◌<◌, List, [], length, get_or, All, refl, sym, ap, ◌∙◌, subst, arith}
use Rattle.std.proofs.lemmas.List.Elements.{All-get_or}
use Rattle.bm_term.specs.Canonical.{IsCanonical}
use Rattle.bm_term.specs.declared.triple.Triple.{Triple}
use Rattle.byte_tables.specs.Numbers.{IsBytes}
use Rattle.run_rows.specs.declared.form.RowForm.TheVariants.{V1}
use Rattle.index_file.proofs.GroupLaws.{TermCounts-terms_in, term_table-terms_in}
use Rattle.index_file.proofs.ImageLaws.{index_exactly, image_stands_for, IsStorable-graph_in}
use Rattle.index_file.proofs.ReadingLaws.{IsRead, IsRead-index, numbering_read, pairs_again, count_in_order}
use Rattle.index_file.proofs.StoredLaws.{All-canonical}
use Rattle.index_file.specs.Conditions.{HeaderIsKnown, LengthsAgree, TermsAreOrdered, DirectoryIsOrdered, RowsAreEncodings, CountsAgree, FamiliesAgree, AreCanonical, IsIndex, IsImageOf}
use Rattle.index_file.specs.Damage.{Holds, part_number, IsFirstFailing}
use Rattle.index_file.specs.Image.{graph_in, terms_in}
use Rattle.index_file.specs.Layout.{Layout, field, layout_in}
use Rattle.index_file.specs.Stored.{stored_of, counts_of}
use Rattle.index_file.specs.declared.damaged.Part.{Part}
use Rattle.index_file.specs.declared.damaged.Part.TheVariants.{Header, Length, Terms, Directory, Rows, Counts, Agreement}
use Rattle.index_file.specs.steps.Sections.{counts_in}
use Rattle.index_file.specs.Version.{NumbersSomeGraph}
use Rattle.index_file.specs.steps.Stores.{IsStored, numbering_in, stored_in}

version_is : (bytes : List ℕ) → (layout_in bytes).version ≡ field bytes 0
unfolding layout_in
version_is bytes = refl

-- the counts of what is read
counts_are : (l : Layout) → IsRead V1 l → counts_of (stored_in l) ≡ counts_in l
counts_are l read =
    let counts = TermCounts-terms_in l read.can in
    λ i. record {
      version = l.version;
      shared = counts.shared i;
      subjects = counts.subjects i;
      objects = counts.objects i;
      predicates = counts.predicates i;
      triples = count_in_order V1 l read i;
    }

-- it is the numbering of a graph
numbers_some_graph : (bytes : List ℕ) → IsBytes bytes → IsIndex 1 V1 bytes → NumbersSomeGraph (numbering_in (layout_in bytes))
numbers_some_graph bytes fits index =
    let storable = IsStorable-graph_in 1 V1 bytes (omega arith) fits index in
    let read : IsRead V1 (layout_in bytes) = IsRead-index 1 V1 bytes (omega arith) fits index in
    record {
      graph = graph_in V1 bytes;
      numbers = record {
        ascends = storable.ascends;
        triples = storable.triples;
        numbered = sym (numbering_read V1 (layout_in bytes) read);
      };
      few = storable.few;
    }

-- an index is one that can be held
pub IsStored-index : (bytes : List ℕ) → IsBytes bytes → IsIndex 1 V1 bytes → IsStored (layout_in bytes)
IsStored-index bytes fits index =
    let l = layout_in bytes in
    let read : IsRead V1 l = IsRead-index 1 V1 bytes (omega arith) fits index in
    record {
      counts = counts_are l read;
      canonical = index.terms.canonical;
      ordered = index.terms.ordered;
      rows = index.rows;
      pairs = pairs_again V1 l read;
      numbers = numbers_some_graph bytes fits index;
    }

-- and it is that of the graph that the bytes stand for
pub stored_in-index : (bytes : List ℕ) → IsBytes bytes → IsIndex 1 V1 bytes → stored_in (layout_in bytes) ≡ stored_of 1 (graph_in V1 bytes)
stored_in-index bytes fits index =
    let l = layout_in bytes in
    let numbering = numbering_read V1 l (IsRead-index 1 V1 bytes (omega arith) fits index) in
    let version : l.version ≡ 1 = version_is bytes ∙ index.header.known in
    λ i. record { version = version i; numbering = sym numbering i }

pub stands_for_graph : (graph : List Triple) (bytes : List ℕ) → IsImageOf 1 V1 graph bytes → stored_of 1 (graph_in V1 bytes) ≡ stored_of 1 graph
stands_for_graph graph bytes image = ap (stored_of 1) (image_stands_for 1 V1 graph bytes (omega arith) image)

pub index_of_image : (graph : List Triple) (bytes : List ℕ) → IsBytes bytes → IsImageOf 1 V1 graph bytes → IsIndex 1 V1 bytes
index_of_image graph bytes fits image = (index_exactly 1 V1 bytes (omega arith) fits).1 (graph, image)

-- no condition of an index fails
holds_all : (bytes : List ℕ) → IsIndex 1 V1 bytes → (part : Part) → Holds 1 V1 bytes part
holds_all bytes index Header = index.header
holds_all bytes index Length = index.lengths
holds_all bytes index Terms = index.terms
holds_all bytes index Directory = index.directory
holds_all bytes index Rows = index.rows
holds_all bytes index Counts = index.counts
holds_all bytes index Agreement = index.agreement

pub never_failing : (bytes : List ℕ) (part : Part) → IsIndex 1 V1 bytes → IsFirstFailing 1 V1 bytes part → ⊥
never_failing bytes part index failing = failing.fails (holds_all bytes index part)

-- where the conditions before the last hold, the last is the first that fails
pub first_is_agreement : (bytes : List ℕ) → HeaderIsKnown 1 bytes → LengthsAgree bytes → TermsAreOrdered bytes → DirectoryIsOrdered bytes → RowsAreEncodings V1 (layout_in bytes) → CountsAgree V1 (layout_in bytes)
    → (FamiliesAgree V1 (layout_in bytes) → ⊥) → IsFirstFailing 1 V1 bytes Agreement
first_is_agreement bytes header lengths terms directory rows counts fails = record { fails = fails; before = before }
  where
    before : (earlier : Part) → part_number earlier < part_number Agreement → Holds 1 V1 bytes earlier
    before Header low = header
    before Length low = lengths
    before Terms low = terms
    before Directory low = directory
    before Rows low = rows
    before Counts low = counts
    before Agreement low = absurd (omega arith)

-- ---- the text in a place

pub text_is_canonical : (l : Layout) (value : ℕ) (text : List ℕ) → AreCanonical (terms_in l) → value < length l.texts → get_or l.texts value [] ≡ text → IsCanonical text
text_is_canonical l value text canonical low is =
    subst IsCanonical is (All-get_or IsCanonical l.texts value [] low (subst (All IsCanonical) (term_table-terms_in l) (All-canonical (terms_in l) canonical)))
