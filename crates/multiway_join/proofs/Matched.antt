-- The pairs of a relation continue a row of cells as the triples that they stand for continue the row of values.
use Rattle.std.proofs.Common.{◌≡◌, ℕ, ◌<◌, ◌++◌, inl, inr, Bool, List, [], ◌∷◌, length, map, Contains, Option, Some, None, IsTrue, option_to_list, refl, sym, ◌∙◌, ap, subst, eqb-true, eq-eqb}
use Rattle.std.specs.Prelude.{◌==◌}
use Rattle.std.specs.Option.{option_map}
use Rattle.std.specs.List.{cons_option, filter_map}
use Rattle.std.proofs.lemmas.List.{length-map}
use Rattle.std.proofs.lemmas.List.Elements.{Contains-append_cases}
use Rattle.std.proofs.lemmas.Option.{none-some}
use Rattle.bm_term.proofs.Elements.{Contains-head, Contains-tail, Contains-nil, Contains-single}
use Rattle.alg_model.specs.declared.pattern.Place.{Place}
use Rattle.alg_model.specs.declared.pattern.Place.TheVariants as places
use Rattle.alg_model.specs.declared.pattern.TriplePat.{TriplePat}
use Rattle.alg_model.specs.Eval.{match_of}
use Rattle.alg_model.specs.Pattern.{IsVar, place_vars, triple_vars}
use Rattle.alg_model.specs.Row.{Row, binding, both_rows, merged}
use Rattle.alg_model.specs.Solution.{Becomes, Makes, TellsValues}
use Rattle.alg_model.proofs.BasicPatterns.{rows_of_match}
use Rattle.alg_model.proofs.Cells.{cases_Option, IsSome-from_value, IsUnion, union_from_merged, merged_from_union}
use Rattle.alg_model.proofs.Joins.{cut, width-cut, cut_inside, cut_value, cut_binds, IsRowOf, AreRowsOf}
use Rattle.alg_model.proofs.Lists.{Contains-option, option-Contains}
use Rattle.alg_model.proofs.Width.{HasWidth}
use Rattle.pattern_tree.specs.FlatTable.{cell_of, row_of}
use Rattle.pruning_laws.specs.Shown.{entry_of, shown}
use Rattle.tree_relations.specs.declared.prepared.Entry.{Entry}
use Rattle.tree_relations.specs.declared.prepared.PlaceKind.{PlaceKind}
use Rattle.tree_relations.specs.declared.prepared.PlaceKind.TheVariants.{Subject, Object, Predicate}
use Rattle.tree_relations.specs.declared.prepared.Prepared.{Prepared}
use Rattle.tree_relations.specs.declared.prepared.SidePlace.{SidePlace}
use Rattle.tree_relations.specs.Fits.{place_at, IsSide, IsEntryOf}
use Rattle.tree_relations.specs.Prepared.{FitsTogether}
use Rattle.tree_relations.specs.Readings.{NumberTriple, part_at, as_numbers, lists_left, left_of, EntryGives, SideGives, ReadsSide, IsReading}
use Rattle.multiway_join.specs.FlatRows.{continued}
use Rattle.multiway_join.specs.steps.Binding.{bind_pair, continued_by, continued_row, CanJoin, HasCell, IsReady}
use Rattle.multiway_join.proofs.Bound.{IsBoundBy, pair_bound, pair_agrees}
use Rattle.multiway_join.proofs.Ready.{var_of_triple, is_ready, left_of_lines}

-- numbers are told apart
pub tells_numbers : (stands_for : ℕ → List ℕ → Bool) → TellsValues (as_numbers stands_for)
tells_numbers stands_for v w = (λ is. eqb-true v w is, λ is. eq-eqb v w is)

var_of_place : (place : Place) (k : ℕ) → Contains (place_vars place) k → IsVar place k
var_of_place (places.Var v) k at = Contains-single v.0 k at
var_of_place (places.Term text) k at = absurd (Contains-nil k at)

-- a variable of a triple pattern stands at one of its places
place_of_var : (pattern : TriplePat) (k : ℕ) → Contains (triple_vars pattern) k → (kind : PlaceKind) × IsVar (place_at kind pattern) k
place_of_var pattern k at =
    let s = place_vars pattern.subject in
    let p = place_vars pattern.predicate in
    let o = place_vars pattern.object in
    elim (Contains-append_cases (s ++ p) o k at) as (λ _. (kind : PlaceKind) × IsVar (place_at kind pattern) k) [
      | inl front ↦ elim (Contains-append_cases s p k front) as (λ _. (kind : PlaceKind) × IsVar (place_at kind pattern) k) [
        | inl first ↦ (Subject, var_of_place pattern.subject k first)
        | inr second ↦ (Predicate, var_of_place pattern.predicate k second)
      ]
      | inr last ↦ (Object, var_of_place pattern.object k last)
    ]

module _ (p : Prepared) (n : ℕ) (stands_for : ℕ → List ℕ → Bool) (pattern : TriplePat) (t : NumberTriple) where
  becomes_value : (row : Row ℕ) (place : Place) (value k : ℕ) → Becomes (as_numbers stands_for) row place value → IsVar place k → binding row k ≡ Some value
  becomes_value row (places.Var v) value k is var = subst (λ (k : ℕ). binding row k ≡ Some value) var is
  becomes_value row (places.Term text) value k is var = absurd var

  made_at : (row : Row ℕ) → Makes (as_numbers stands_for) row pattern t → (kind : PlaceKind) (k : ℕ) → IsVar (place_at kind pattern) k → binding row k ≡ Some (part_at kind t)
  made_at row makes Subject k var = becomes_value row pattern.subject t.subject k makes.subject var
  made_at row makes Object k var = becomes_value row pattern.object t.object k makes.object var
  made_at row makes Predicate k var = becomes_value row pattern.predicate t.predicate k makes.predicate var

  value_becomes : (row : Row ℕ) (place : Place) (value : ℕ) → ((k : ℕ) → IsVar place k → binding row k ≡ Some value) → ((text : List ℕ) → place ≡ places.Term text → IsTrue (stands_for value text)) →
      Becomes (as_numbers stands_for) row place value
  value_becomes row (places.Var v) value vars terms = vars v.0 refl
  value_becomes row (places.Term text) value vars terms = terms text refl

  side_gives : (side : Option SidePlace) (number k : ℕ) (kind : PlaceKind) → ReadsSide p side number t → IsSide side kind k → SideGives p side number k (part_at kind t)
  side_gives None number k kind reads is = absurd is
  side_gives (Some place) number k kind reads is = (is.1, sym reads ∙ ap (λ (kind : PlaceKind). part_at kind t) is.0)

  side_of : (side : Option SidePlace) (number k v : ℕ) → ReadsSide p side number t → SideGives p side number k v → (kind : PlaceKind) × IsSide side kind k × (part_at kind t ≡ v)
  side_of None number k v reads gives = absurd gives
  side_of (Some place) number k v reads gives = (place.kind, (refl, gives.0), reads ∙ gives.1)

  module _ (e : Entry) (pair : ℕ × ℕ) (sides : IsEntryOf pattern e) (first : ReadsSide p e.first pair.0 t) (second : ReadsSide p e.second pair.1 t)
      (terms : (kind : PlaceKind) (text : List ℕ) → place_at kind pattern ≡ places.Term text → IsTrue (stands_for (part_at kind t) text)) (below : (var : ℕ) → Contains (triple_vars pattern) var → var < n) where
    -- the pair gives a variable the triple's value at each of its places
    given_at : (kind : PlaceKind) (k : ℕ) → IsVar (place_at kind pattern) k → EntryGives p e pair k (part_at kind t)
    given_at kind k var = elim ((sides kind k).0 var) as (λ _. EntryGives p e pair k (part_at kind t)) [
      | inl is ↦ inl (side_gives e.first pair.0 k kind first is)
      | inr is ↦ inr (side_gives e.second pair.1 k kind second is)
    ]

    -- and nothing else
    place_of_given : (k v : ℕ) → EntryGives p e pair k v → (kind : PlaceKind) × IsVar (place_at kind pattern) k × (part_at kind t ≡ v)
    place_of_given k v (inl gives) = (let is = side_of e.first pair.0 k v first gives in (is.0, (sides is.0 k).1 (inl is.1), is.2))
    place_of_given k v (inr gives) = (let is = side_of e.second pair.1 k v second gives in (is.0, (sides is.0 k).1 (inr is.1), is.2))

    abbrev Match : Row ℕ → Type 0
    Match s = IsRowOf n (triple_vars pattern) (λ row. Makes (as_numbers stands_for) row pattern t) s

    -- what the row and the match bind is what the row and the pair bind
    bound_by_match : (row s q : Row ℕ) → HasWidth n row → Match s → HasWidth n q → IsUnion row s q → IsBoundBy (EntryGives p e pair) row q
    bound_by_match row s q width is long union = record {
      width = long ∙ sym width;
      given = λ k v gives. (let at = place_of_given k v gives in union.right k v (made_at s is.holds at.0 k at.1 ∙ ap Some at.2));
      before = union.left;
      no_more = λ k none never. union.no_more k none (elim (cases_Option (binding s k)) as (λ _. binding s k ≡ None) [
        | inl some ↦
            let at = place_of_var pattern k ((is.binds k).0 (IsSome-from_value (binding s k) some.0 some.1)) in
            absurd (never (part_at at.0 t) (given_at at.0 k at.1))
        | inr unbound ↦ unbound
      ]);
    }

    module _ (row q : Row ℕ) (width : HasWidth n row) (is : IsBoundBy (EntryGives p e pair) row q) where
      long : HasWidth n q
      long = is.width ∙ width

      -- the match: what the row with the pair binds of the triple pattern's variables
      abbrev own_match : Row ℕ
      own_match = cut n (triple_vars pattern) q

      value_of_match : (kind : PlaceKind) (k : ℕ) → IsVar (place_at kind pattern) k → binding own_match k ≡ Some (part_at kind t)
      value_of_match kind k var = cut_inside n (triple_vars pattern) q long k (var_of_triple kind pattern k var) ∙ is.given k (part_at kind t) (given_at kind k var)

      is_match : Match own_match
      is_match = record {
        width = width-cut n (triple_vars pattern) q long;
        binds = cut_binds n (triple_vars pattern) q long (λ k at. (let place = place_of_var pattern k at in IsSome-from_value (binding q k) (part_at place.0 t) (is.given k (part_at place.0 t) (given_at place.0 k place.1))));
        holds = record {
          subject = value_becomes own_match pattern.subject t.subject (value_of_match Subject) (terms Subject);
          predicate = value_becomes own_match pattern.predicate t.predicate (value_of_match Predicate) (terms Predicate);
          object = value_becomes own_match pattern.object t.object (value_of_match Object) (terms Object);
        };
      }

      union_of_match : IsUnion row own_match q
      union_of_match = record {
        left = is.before;
        right = λ k v bound. (cut_value n (triple_vars pattern) q long k v bound).1;
        no_more = λ k none unbound. is.no_more k none (λ v gives. (let at = place_of_given k v gives in none-some (part_at at.0 t) (sym unbound ∙ value_of_match at.0 k at.1)));
      }

    -- so a row of cells with the pair is, as values, its merge with the match
    as_merged : (row : List ℕ) → length row ≡ n → HasCell (length row) e.first → HasCell (length row) e.second →
        option_map row_of (bind_pair p e row pair) ≡ both_rows ◌==◌ (Some (row_of row)) (match_of (as_numbers stands_for) n pattern t)
    as_merged row wide first_cell second_cell = by (bind_pair p e row pair) refl
      where
        width : HasWidth n (row_of row)
        width = length-map row cell_of ∙ wide

        are : AreRowsOf n (triple_vars pattern) (λ row. Makes (as_numbers stands_for) row pattern t) (option_to_list (match_of (as_numbers stands_for) n pattern t))
        are = rows_of_match (as_numbers stands_for) (tells_numbers stands_for) n pattern t below

        -- no row where the pair agrees with none
        none : bind_pair p e row pair ≡ None → (o : Option (Row ℕ)) → match_of (as_numbers stands_for) n pattern t ≡ o → both_rows ◌==◌ (Some (row_of row)) o ≡ None
        none is None found = refl
        none is (Some s) found = elim (cases_Option (merged ◌==◌ (row_of row) s)) as (λ _. merged ◌==◌ (row_of row) s ≡ None) [
          | inl some ↦
              let own = are.sound s (Contains-option (match_of (as_numbers stands_for) n pattern t) s found) in
              let union = union_from_merged ◌==◌ (tells_numbers stands_for) n (row_of row) s some.0 width own.width some.1 in
              absurd (pair_agrees p e pair row first_cell second_cell some.0 (bound_by_match (row_of row) s some.0 width own union.0 union.1) is)
          | inr unbound ↦ unbound
        ]

        by : (o : Option (List ℕ)) → bind_pair p e row pair ≡ o → option_map row_of o ≡ both_rows ◌==◌ (Some (row_of row)) (match_of (as_numbers stands_for) n pattern t)
        by None is = sym (none is (match_of (as_numbers stands_for) n pattern t) refl)
        by (Some q) is =
            let bound = pair_bound p e pair row first_cell second_cell q is in
            let s = own_match (row_of row) (row_of q) width bound in
            let own = is_match (row_of row) (row_of q) width bound in
            let found : match_of (as_numbers stands_for) n pattern t ≡ Some s = option-Contains (match_of (as_numbers stands_for) n pattern t) s (are.complete s own) in
            let union = union_of_match (row_of row) (row_of q) width bound in
            let merges : merged ◌==◌ (row_of row) s ≡ Some (row_of q) =
            merged_from_union ◌==◌ (tells_numbers stands_for) n (row_of row) s (row_of q) width own.width (long (row_of row) (row_of q) width bound) union in
            sym (ap (λ (o : Option (Row ℕ)). both_rows ◌==◌ (Some (row_of row)) o) found ∙ merges)

-- ---- lists of pairs

one_more : (o : Option (List ℕ)) (m : Option (Row ℕ)) (row : Row ℕ) (xs : List (List ℕ)) (ys : List (Row ℕ)) → option_map row_of o ≡ both_rows ◌==◌ (Some row) m → map row_of xs ≡ filter_map (merged ◌==◌ row) ys →
    map row_of (cons_option o xs) ≡ filter_map (merged ◌==◌ row) (cons_option m ys)
one_more None None row xs ys is rest = rest
one_more (Some q) None row xs ys is rest = absurd (none-some (row_of q) (sym is))
one_more None (Some s) row xs ys is rest = rest ∙ ap (λ (o : Option (Row ℕ)). cons_option o (filter_map (merged ◌==◌ row) ys)) is
one_more (Some q) (Some s) row xs ys is rest = ap (λ (rows : List (Row ℕ)). row_of q ∷ rows) rest ∙ ap (λ (o : Option (Row ℕ)). cons_option o (filter_map (merged ◌==◌ row) ys)) is

same_lists : (bind : ℕ × ℕ → Option (List ℕ)) (matches : NumberTriple → Option (Row ℕ)) (triple : ℕ × ℕ → NumberTriple) (row : Row ℕ) (pairs : List (ℕ × ℕ)) →
    ((pair : ℕ × ℕ) → Contains pairs pair → option_map row_of (bind pair) ≡ both_rows ◌==◌ (Some row) (matches (triple pair))) →
    map row_of (filter_map bind pairs) ≡ filter_map (merged ◌==◌ row) (filter_map matches (map triple pairs))
same_lists bind matches triple row [] same = refl
same_lists bind matches triple row (pair ∷ pairs) same =
    one_more (bind pair) (matches (triple pair)) row (filter_map bind pairs) (filter_map matches (map triple pairs)) (same pair (Contains-head pair pairs))
    (same_lists bind matches triple row pairs (λ other at. same other (Contains-tail pair pairs other at)))

-- the terms of a triple pattern, which its triples have
abbrev pub HasTerms : (ℕ → List ℕ → Bool) → (ℕ → ℕ × ℕ → NumberTriple) → Prepared → TriplePat → Type 0
HasTerms stands_for triple p pattern = (kind : PlaceKind) (text : List ℕ) (pair : ℕ × ℕ) →
    place_at kind pattern ≡ places.Term text → Contains (lists_left p (entry_of pattern)) pair → IsTrue (stands_for (part_at kind (triple (entry_of pattern) pair)) text)

-- what continues a row of cells is, as rows of values, what continues the row of values
pub continued_same : (p : Prepared) (n : ℕ) (stands_for : ℕ → List ℕ → Bool) (triple : ℕ → ℕ × ℕ → NumberTriple) (pattern : TriplePat) (row : List ℕ) → FitsTogether p → IsReading p triple → HasTerms stands_for triple p pattern → CanJoin p n pattern → length row ≡ n →
    map row_of (continued_row p pattern row) ≡ continued (as_numbers stands_for) n (shown triple (lists_left p)) pattern (row_of row)
continued_same p n stands_for triple pattern row fits reading terms can wide =
    subst (λ (o : Option Entry). map row_of (continued_by p o (left_of p o) row) ≡ filter_map (merged ◌==◌ (row_of row)) (filter_map (match_of (as_numbers stands_for) n pattern) (map (triple i) (left_of p o))))
    (sym can.at.at) (same_lists (bind_pair p e row) (match_of (as_numbers stands_for) n pattern) (triple i) (row_of row) (left_of p (Some e)) each)
  where
    e : Entry
    e = can.entry

    i : ℕ
    i = entry_of pattern

    ready : IsReady p (length row) can.entry
    ready = subst (λ (width : ℕ). IsReady p width can.entry) (sym wide) (is_ready p n pattern can.entry fits can can.at.at)

    left_here : (pair : ℕ × ℕ) → Contains (left_of p (Some can.entry)) pair → Contains (lists_left p (entry_of pattern)) pair
    left_here pair at = subst (λ (o : Option Entry). Contains (left_of p o) pair) (sym can.at.at) at

    each : (pair : ℕ × ℕ) → Contains (left_of p (Some can.entry)) pair → option_map row_of (bind_pair p can.entry row pair) ≡ both_rows ◌==◌ (Some (row_of row)) (match_of (as_numbers stands_for) n pattern (triple (entry_of pattern) pair))
    each pair at =
        let among = left_of_lines p can.entry pair at in
        as_merged p n stands_for pattern (triple (entry_of pattern) pair) can.entry pair can.at.sides (reading.first (entry_of pattern) can.entry pair can.at.at among) (reading.second (entry_of pattern) can.entry pair can.at.at among)
        (λ kind text is. terms kind text pair is (left_here pair at)) can.below row wide ready.first_cell ready.second_cell
