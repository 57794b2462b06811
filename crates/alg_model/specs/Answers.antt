-- The answers of a query: the rows of its pattern, cut to its columns, in order. SPARQL 1.1 Query, section 18.2.5.
-- The order of the rows is this project's: column by column, unbound before bound, terms by the bytes of their text.
use Rattle.std.specs.Prelude.{ℕ, Bool, if◌then◌else◌, List, [], ◌∷◌, map, length, None, slice_index_or}
use Rattle.std.specs.declared.cmp.Ordering.{Ordering}
use Rattle.std.specs.Option.{option_cmp}
use Rattle.std.specs.Ordering.{nat_cmp, is_lt}
use Rattle.std.specs.Cmp.Lexicographic.{slice_cmp}
use Rattle.bm_term.specs.SetOf.{set_of}
use Rattle.bm_term.specs.declared.triple.Triple.{Triple}
use Rattle.alg_model.specs.declared.var.Var.{Var}
use Rattle.alg_model.specs.declared.query.Query.{Query}
use Rattle.alg_model.specs.Row.{Row}
use Rattle.alg_model.specs.Query.{AbstractQuery, abstract_of}
use Rattle.alg_model.specs.Eval.{as_terms, eval}

-- a row of texts compared with another
abbrev pub row_cmp : Row (List ℕ) → Row (List ℕ) → Ordering
row_cmp = slice_cmp (option_cmp (slice_cmp nat_cmp))

-- the cells of some columns
abbrev pub project : {V : Type 0} → List Var → Row V → Row V
project columns row = map (λ column. slice_index_or row column.0 None) columns

module _ {X : Type 0} (cmp : X → X → Ordering) where
  -- an item after the first ones that are less
  abbrev pub put_in_order : X → List X → List X
  put_in_order x [] = x ∷ []
  put_in_order x (y ∷ ys) = if is_lt (cmp y x) then y ∷ put_in_order x ys else x ∷ y ∷ ys

  -- the items in ascending order, each as often as there
  abbrev pub in_order : List X → List X
  in_order [] = []
  in_order (x ∷ xs) = put_in_order x (in_order xs)

-- rows cut to the columns, in order: with DISTINCT each once, and else each as often as there
abbrev pub arranged : List Var → Bool → List (Row (List ℕ)) → List (Row (List ℕ))
arranged columns distinct rows =
    let projected = map (project columns) rows in
    if distinct then set_of row_cmp projected else in_order row_cmp projected

-- the answers over triples
abbrev pub answers_to : AbstractQuery → List Triple → List (Row (List ℕ))
answers_to query triples = arranged query.columns query.distinct (eval as_terms (length query.names) query.pattern triples)

abbrev pub answers_of : Query → List Triple → List (Row (List ℕ))
answers_of query triples = answers_to (abstract_of query) triples
