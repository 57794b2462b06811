-- What a taker of triples keeps.
use Rattle.std.specs.Prelude.{◌≡◌, ℕ, Bool, true, false, ◌&&◌, ◌||◌, ◌==◌, if◌then◌else◌, Option, Some, None, bytes_eq, List, [], ◌∷◌, ◌++◌, length, fold}
use Rattle.std.specs.List.{list_any}
use Rattle.bm_term.specs.declared.triple.Triple.{Triple}

-- a list of triples, a limit or none, and a mark that says whether there were more
pub record Kept : Type 0 where
  pub list : List Triple
  pub limit : Option ℕ
  pub were_more : Bool

-- whether two triples are the same, part by part
abbrev pub triple_eq : Triple → Triple → Bool
triple_eq t u = bytes_eq t.subject u.subject && bytes_eq t.predicate u.predicate && bytes_eq t.object u.object

-- with the triple at the end of the list
abbrev pub with_triple : Kept → Triple → Kept
with_triple kept triple = record kept { list = kept.list ++ triple ∷ [] }

-- Under a limit: nothing changes where the mark is set or the triple is there; the mark is set where the list is full;
-- else the triple is put at the end.
abbrev pub after_limited : ℕ → Kept → Triple → Kept
after_limited limit kept triple =
    if kept.were_more || list_any (triple_eq triple) kept.list then kept
    else (if length kept.list == limit then record kept { were_more = true } else with_triple kept triple)

abbrev pub after_by : Option ℕ → Kept → Triple → Kept
after_by None kept triple = with_triple kept triple
after_by (Some limit) kept triple = after_limited limit kept triple

-- what is kept after one triple, and after all triples of a list in order
abbrev pub after : Kept → Triple → Kept
after kept triple = after_by kept.limit kept triple

abbrev pub after_all : Kept → List Triple → Kept
after_all kept triples = fold after kept triples

-- a taker has taken a list
abbrev pub HasTaken : Kept → Kept → List Triple → Type 0
HasTaken old new triples = new ≡ after_all old triples

-- without a limit
abbrev pub unlimited : List Triple → Kept
unlimited list = record { list = list; limit = None; were_more = false }
