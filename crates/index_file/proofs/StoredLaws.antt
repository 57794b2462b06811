-- The terms of a graph of RDF triples have their kinds of texts, and triples that are named by such terms are triples of RDF.
use Rattle.std.proofs.Common.{ℕ, ◌<◌, inl, inr, not, List, [], ◌∷◌, ◌++◌, length, map, All, Contains, sym, subst, arith}
use Rattle.std.proofs.lemmas.List.Elements.{All-append, All-get_or, All-contains, All-filter, All-from_recursion}
use Rattle.bm_term.specs.Canonical.{RdfTerm, iri, blank, plain, tagged, typed, canonical_text, IsCanonical, IsTextOf}
use Rattle.bm_term.specs.SetOf.{set_of}
use Rattle.bm_term.specs.Triple.{IsNode, IsRdfTriple}
use Rattle.bm_term.specs.declared.term_parts.TermKind.TheVariants.{Iri}
use Rattle.bm_term.specs.declared.triple.Triple.{Triple}
use Rattle.bm_term.proofs.Elements.{Contains-head, Contains-tail}
use Rattle.byte_tables.specs.Pieces.{HaveBytes}
use Rattle.term_numbers.specs.Order.{text_cmp, Numbered}
use Rattle.term_numbers.specs.Numbering.{Terms, subject_texts, object_texts, is_among, terms_of, all_subjects, all_objects, term_table, named}
use Rattle.term_numbers.proofs.Ascending.{text_cmp-total, text_cmp-exact, set_of-is, all_from_members}
use Rattle.term_numbers.proofs.NumberingLaws.{from_map}
use Rattle.index_file.proofs.NamingLaws.{UseAll, graph_named, graph_is}
use Rattle.index_file.specs.Conditions.{AreCanonical}

-- ---- from terms to triples

pub node_is_canonical : (x : List ℕ) → IsNode x → IsCanonical x
node_is_canonical x (inl is) = is.canonical
node_is_canonical x (inr is) = is.canonical

-- what holds of each member holds of all
pub All-members : {X : Type 0} (P : X → Type 0) (xs : List X) → ((x : X) → Contains xs x → P x) → All P xs
All-members P xs each = All-from_recursion P xs (all_from_members P xs each)

pub All-rdf : (terms : Terms) (ts : List Numbered) → AreCanonical terms → UseAll terms ts → All IsRdfTriple (graph_named terms ts)
All-rdf terms ts canonical use_all = All-members IsRdfTriple (graph_named terms ts) (λ u there.
    let t = from_map (named terms) ts u ((graph_is terms ts u).0 there) in
    let subjects = All-append IsNode terms.shared terms.subjects canonical.shared canonical.subjects in
    let shared = All-members IsCanonical terms.shared (λ x at. node_is_canonical x (All-contains IsNode terms.shared x canonical.shared at)) in
    let objects = All-append IsCanonical terms.shared terms.objects shared canonical.objects in
    subst IsRdfTriple t.2 (record {
      subject = All-get_or IsNode (all_subjects terms) t.0.0 [] (use_all.subject t.0 t.1) subjects;
      predicate = All-get_or (IsTextOf Iri) terms.predicates t.0.1 [] (use_all.predicate t.0 t.1) canonical.predicates;
      object = All-get_or IsCanonical (all_objects terms) t.0.2 [] (use_all.object t.0 t.1) objects;
    }))

-- ---- from triples to terms

-- the texts of one part of a graph are such parts
part_all : (P : List ℕ → Type 0) (p : Triple → List ℕ) (g : List Triple) → ((u : Triple) → Contains g u → P (p u)) → All P (set_of text_cmp (map p g))
part_all P p g each = All-members P (set_of text_cmp (map p g)) (λ x there.
    let u = from_map p g x (((set_of-is text_cmp text_cmp-total text_cmp-exact (map p g)).same x).0 there) in
    subst P u.2 (each u.0 u.1))

pub AreCanonical-terms_of : (g : List Triple) → All IsRdfTriple g → AreCanonical (terms_of g)
AreCanonical-terms_of g rdf =
    let is : (u : Triple) → Contains g u → IsRdfTriple u = λ u there. All-contains IsRdfTriple g u rdf there in
    let subjects = part_all IsNode (λ u. u.subject) g (λ u there. (is u there).subject) in
    let objects = part_all IsCanonical (λ u. u.object) g (λ u there. (is u there).object) in
    record {
      shared = All-filter (λ x. is_among (object_texts g) x) IsNode (subject_texts g) subjects;
      subjects = All-filter (λ x. not (is_among (object_texts g) x)) IsNode (subject_texts g) subjects;
      objects = All-filter (λ x. not (is_among (subject_texts g) x)) IsCanonical (object_texts g) objects;
      predicates = part_all (IsTextOf Iri) (λ u. u.predicate) g (λ u there. (is u there).predicate);
    }

-- ---- texts have bytes

term_has_bytes : (t : RdfTerm) → 0 < length (canonical_text t)
unfolding lib.Utf8.encode
term_has_bytes (iri chars) = omega arith
term_has_bytes (blank label) = omega arith
term_has_bytes (plain lexical) = omega arith
term_has_bytes (tagged lexical tag) = omega arith
term_has_bytes (typed lexical datatype) = omega arith

pub text_has_bytes : (x : List ℕ) → IsCanonical x → 0 < length x
text_has_bytes x is = subst (λ y. 0 < length y) (sym is.spelled) (term_has_bytes is.term)

HaveBytes-members : (xs : List (List ℕ)) → ((x : List ℕ) → Contains xs x → 0 < length x) → HaveBytes xs
HaveBytes-members [] each = tt
HaveBytes-members (x ∷ xs) each = (each x (Contains-head x xs), HaveBytes-members xs (λ y there. each y (Contains-tail x xs y there)))

-- the texts of the term table are canonical
pub All-canonical : (terms : Terms) → AreCanonical terms → All IsCanonical (term_table terms)
All-canonical terms canonical =
    let shared = All-members IsCanonical terms.shared (λ x at. node_is_canonical x (All-contains IsNode terms.shared x canonical.shared at)) in
    let subjects = All-members IsCanonical terms.subjects (λ x at. node_is_canonical x (All-contains IsNode terms.subjects x canonical.subjects at)) in
    let predicates = All-members IsCanonical terms.predicates (λ x at. (All-contains (IsTextOf Iri) terms.predicates x canonical.predicates at).canonical) in
    All-append IsCanonical terms.shared (terms.subjects ++ (terms.objects ++ terms.predicates)) shared (All-append IsCanonical terms.subjects (terms.objects ++ terms.predicates) subjects (All-append IsCanonical terms.objects terms.predicates canonical.objects predicates))

-- and have bytes
pub HaveBytes-terms : (terms : Terms) → AreCanonical terms → HaveBytes (term_table terms)
HaveBytes-terms terms canonical =
    HaveBytes-members (term_table terms) (λ x there. text_has_bytes x (All-contains IsCanonical (term_table terms) x (All-canonical terms canonical) there))
