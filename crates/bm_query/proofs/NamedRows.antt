-- Rows of places in a term table, named one after another.
use Rattle.std.proofs.Common.{◌≡◌, ℕ, suc, ◌+◌, ◌<◌, ◌++◌, List, [], ◌∷◌, length, map, take, get_or, All, Some, None, ap, ◌∙◌, subst, arith}
use Rattle.std.specs.Prelude.{slice_get}
use Rattle.std.specs.Option.{option_map}
use Rattle.std.proofs.Math.Seq.{take-suc}
use Rattle.std.proofs.lemmas.List.{map-append, get_or-map, length-map}
use Rattle.std.proofs.lemmas.Option.{get_or_from_slice_get, slice_get_within}
use Rattle.alg_model.specs.Row.{Row}
use Rattle.engine_laws.specs.Terms.{text_at, RowsHaveTexts}
use Rattle.naming_laws.specs.Naming.{named_row}
use Rattle.pattern_tree.specs.FlatTable.{cell_of, row_of}
use Rattle.term_numbers.specs.Numbering.{Terms, term_table}
use Rattle.bm_query.specs.steps.Named.{HasText}

-- the text at a place, by the table
pub named_text : (terms : Terms) (value : ℕ) (text : List ℕ) → slice_get (term_table terms) value ≡ Some text → text_at terms value ≡ text
named_text terms value text at = get_or_from_slice_get (term_table terms) value text [] at

-- the first so many and one more
next_taken : {X : Type 0} (xs : List X) (i : ℕ) (d : X) → i < length xs → take (i + 1) xs ≡ take i xs ++ get_or xs i d ∷ []
next_taken xs i d low = ap (λ k. take k xs) (succ i) ∙ take-suc xs i d low
  where
    succ : (k : ℕ) → k + 1 ≡ suc k
    succ k = omega arith

-- cells, and the next one
pub named_next : (value : ℕ → List ℕ) (numbers : List ℕ) (i : ℕ) → i < length numbers →
    named_row value (row_of (take (i + 1) numbers)) ≡ named_row value (row_of (take i numbers)) ++ option_map value (cell_of (get_or numbers i 0)) ∷ []
named_next value numbers i low =
    ap (λ l. named_row value (row_of l)) (next_taken numbers i 0 low) ∙ ap (named_row value) (map-append cell_of (take i numbers) (get_or numbers i 0 ∷ []))
    ∙ map-append (option_map value) (row_of (take i numbers)) (cell_of (get_or numbers i 0) ∷ [])

-- the number of a cell of a row
pub number_has : (terms : Terms) (numbers : List ℕ) (i : ℕ) → i < length numbers → All (HasText terms) (row_of numbers) → HasText terms (cell_of (get_or numbers i 0))
number_has terms numbers i low all = subst (HasText terms) (get_or-map cell_of numbers i 0 None low) (all i None (omega (arith, low, length-map numbers cell_of)))

-- rows, and the next one
pub rows_next : (value : ℕ → List ℕ) (rows : List (Row ℕ)) (i : ℕ) (row : Row ℕ) → slice_get rows i ≡ Some row →
    map (named_row value) (take (i + 1) rows) ≡ map (named_row value) (take i rows) ++ named_row value row ∷ []
rows_next value rows i row at =
    ap (map (named_row value)) (next_taken rows i row (slice_get_within rows i row at) ∙ ap (λ r. take i rows ++ r ∷ []) (get_or_from_slice_get rows i row row at))
    ∙ map-append (named_row value) (take i rows) (row ∷ [])

-- a row of the list has what all have
pub row_has : (terms : Terms) (rows : List (Row ℕ)) (i : ℕ) (row : Row ℕ) → slice_get rows i ≡ Some row → RowsHaveTexts terms rows → All (HasText terms) row
row_has terms rows i row at all = subst (All (HasText terms)) (get_or_from_slice_get rows i row row at) (all i row (slice_get_within rows i row at))
