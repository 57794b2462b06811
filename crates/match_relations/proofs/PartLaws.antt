-- A term has one number, and the numbers of triples are those of terms.
use Rattle.std.proofs.Common.{◌≡◌, ℕ, suc, ◌+◌, ◌<◌, ◌≤◌, List, [], ◌∷◌, length, get_or, Bool, true, false, cond, not, bytes_eq, Contains, Some, slice_get, refl, sym, ap, ◌∙◌, subst, arith}
use Rattle.std.specs.Cmp.Lexicographic.{same_text}
use Rattle.alg_model.specs.declared.pattern.Place.{Place}
use Rattle.alg_model.specs.declared.pattern.Place.TheVariants as places
use Rattle.bm_term.proofs.Elements.{Contains-head, Contains-tail, Contains-nil}
use Rattle.match_relations.specs.steps.Parts.{part_of, IsMissing, Lists}
use Rattle.match_relations.specs.declared.part.Part.{Part}
use Rattle.std.proofs.lemmas.Option.{slice_get_within, get_or_from_slice_get}
use Rattle.term_numbers.specs.Numbering.{Numbering, all_subjects, all_objects, place_of}
use Rattle.index_file.specs.Conditions.{AreOrdered}
use Rattle.index_file.specs.Version.{NumbersSomeGraph}
use Rattle.index_file.proofs.NamingLaws.{UseAll, Differ, Differ-ascending, subjects_differ, objects_differ, place_of_differ}
use Rattle.index_file.proofs.TermGroupLaws.{AreOrdered-terms_of, UseAll-numbering_of}

-- the numbers of a graph are in order
pub record IsInOrder (n : Numbering) : Type 0 where
  pub ordered : AreOrdered n.terms
  pub uses : UseAll n.terms n.triples

pub in_order : (n : Numbering) → NumbersSomeGraph n → IsInOrder n
in_order n some = subst IsInOrder (sym some.numbers.numbered) (record { ordered = AreOrdered-terms_of some.graph; uses = UseAll-numbering_of some.graph })

-- a text that stands at a place of texts that differ has it as its place
found_at : (texts : List (List ℕ)) (k : ℕ) (x : List ℕ) → Differ texts → slice_get texts k ≡ Some x → (k ≡ place_of texts x) × (k < length texts)
found_at texts k x differ at =
    let low = slice_get_within texts k x at in
    (sym (place_of_differ texts k x differ low (get_or_from_slice_get texts k x [] at)), low)

pub found_subject : (n : Numbering) (k : ℕ) (x : List ℕ) → NumbersSomeGraph n → slice_get (all_subjects n.terms) k ≡ Some x → (k ≡ place_of (all_subjects n.terms) x) × (k < length (all_subjects n.terms))
found_subject n k x some at = found_at (all_subjects n.terms) k x (subjects_differ n.terms (in_order n some).ordered) at

pub found_object : (n : Numbering) (k : ℕ) (x : List ℕ) → NumbersSomeGraph n → slice_get (all_objects n.terms) k ≡ Some x → (k ≡ place_of (all_objects n.terms) x) × (k < length (all_objects n.terms))
found_object n k x some at = found_at (all_objects n.terms) k x (objects_differ n.terms (in_order n some).ordered) at

pub found_predicate : (n : Numbering) (k : ℕ) (x : List ℕ) → NumbersSomeGraph n → slice_get n.terms.predicates k ≡ Some x → (k ≡ place_of n.terms.predicates x) × (k < length n.terms.predicates)
found_predicate n k x some at = found_at n.terms.predicates k x (Differ-ascending n.terms.predicates (in_order n some).ordered.predicates) at

-- a text that is missing has no place
missing_place : (texts : List (List ℕ)) (x : List ℕ) → (Contains texts x → ⊥) → length texts ≤ place_of texts x
missing_place [] x none = omega arith
missing_place (y ∷ texts) x none = by (bytes_eq x y) refl (missing_place texts x (λ at. none (Contains-tail y texts x at)))
  where
    by : (b : Bool) → bytes_eq x y ≡ b → length texts ≤ place_of texts x → length (y ∷ texts) ≤ cond (not b) (1 + place_of texts x) 0
    by true e rest = absurd (none (subst (Contains (y ∷ texts)) (sym (same_text x y (sym e))) (Contains-head y texts)))
    by false e rest = omega arith

-- a text that has a place stands there
pub place_holds : (texts : List (List ℕ)) (x : List ℕ) → place_of texts x < length texts → get_or texts (place_of texts x) [] ≡ x
place_holds [] x low = absurd (omega arith)
place_holds (y ∷ texts) x low = by (bytes_eq x y) refl (λ rest. place_holds texts x rest) low
  where
    by : (b : Bool) → bytes_eq x y ≡ b → (place_of texts x < length texts → get_or texts (place_of texts x) [] ≡ x) → cond (not b) (1 + place_of texts x) 0 < length (y ∷ texts) → get_or (y ∷ texts) (cond (not b) (1 + place_of texts x) 0) [] ≡ x
    by true e rest low = sym (same_text x y (sym e))
    by false e rest low =
        let next : 1 + place_of texts x ≡ suc (place_of texts x) = omega arith in
        ap (λ i. get_or (y ∷ texts) i []) next ∙ rest (omega arith)

-- where a term is missing, no pair stands for a triple
module _ (n : Numbering) (some : NumbersSomeGraph n) where
  pub no_subject : (place : Place) (p o : Part) → IsMissing (all_subjects n.terms) place → Lists n.triples (length n.terms.shared) (part_of (all_subjects n.terms) place) p o []
  no_subject (places.Var var) p o missing = absurd missing
  no_subject (places.Term text) p o missing = record {
    pairs = λ pair. (
      λ at. absurd (Contains-nil pair at),
      λ is. let low = (in_order n some).uses.subject _ is.there in let past = missing_place (all_subjects n.terms) text missing in absurd (omega arith),
    );
  }

  pub no_predicate : (place : Place) (s o : Part) → IsMissing n.terms.predicates place → Lists n.triples (length n.terms.shared) s (part_of n.terms.predicates place) o []
  no_predicate (places.Var var) s o missing = absurd missing
  no_predicate (places.Term text) s o missing = record {
    pairs = λ pair. (
      λ at. absurd (Contains-nil pair at),
      λ is. let low = (in_order n some).uses.predicate _ is.there in let past = missing_place n.terms.predicates text missing in absurd (omega arith),
    );
  }

  pub no_object : (place : Place) (s p : Part) → IsMissing (all_objects n.terms) place → Lists n.triples (length n.terms.shared) s p (part_of (all_objects n.terms) place) []
  no_object (places.Var var) s p missing = absurd missing
  no_object (places.Term text) s p missing = record {
    pairs = λ pair. (
      λ at. absurd (Contains-nil pair at),
      λ is. let low = (in_order n some).uses.object _ is.there in let past = missing_place (all_objects n.terms) text missing in absurd (omega arith),
    );
  }
