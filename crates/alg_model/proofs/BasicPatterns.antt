-- The law of basic graph patterns: their rows are exactly their solutions, and over triples without repeats no
-- row stands twice. Each place, triple pattern and basic pattern has the rows that bind just its variables and
-- make it what it is to be: for places this is plain, and the Join passes it on.
use Rattle.std.proofs.Common.{◌≡◌, ◌≢◌, ◌↔◌, ℕ, ◌<◌, ◌++◌, inl, inr, Bool, true, false, List, [], ◌∷◌, fold, flat_map, All, AllPairs, Any, Contains, Option, Some, None, IsTrue, if◌then◌else◌, option_to_list, append_assoc, append-nil, refl, sym, ◌∙◌, ap, subst}
use Rattle.std.proofs.lemmas.Bool.{cases_eq}
use Rattle.std.proofs.lemmas.List.Elements.{All-nil, All-cons, All-head, All-tail, All-contains, Contains-append_left, Contains-append_right}
use Rattle.std.specs.Bool.{⊤}
use Rattle.std.specs.List.{cons_option}
use Rattle.bm_term.specs.declared.triple.Triple.{Triple}
use Rattle.alg_model.specs.declared.pattern.Place.{Place}
use Rattle.alg_model.specs.declared.pattern.Place.TheVariants as places
use Rattle.alg_model.specs.declared.pattern.TriplePat.{TriplePat}
use Rattle.alg_model.specs.Row.{Row, unbound, single, merged, both_rows, join, binding}
use Rattle.std.specs.Cmp.Lexicographic.{bytes_decides}
use Rattle.alg_model.specs.Pattern.{Bgp, HasVarsBelow, place_vars, triple_vars}
use Rattle.alg_model.specs.Eval.{Interpretation, place_row, match_of, matches_of, bgp_rows, as_terms}
use Rattle.alg_model.specs.Solution.{BindsJust, Becomes, Makes, IsSolution, AreSolutions, TellsValues, HasOneValue, TellsTriples}
use Rattle.bm_term.proofs.Elements.{Contains-head, Contains-nil, Contains-single}
use Rattle.alg_model.proofs.Lists.{filter_map_as_flat_map, Contains-flat_map, source-flat_map, AllPairs-option, once-flat_map}
use Rattle.alg_model.proofs.Width.{width-unbound, width-single}
use Rattle.alg_model.proofs.Cells.{IsSome-from_value, binding-unbound, binding-single_same, binding-single_other, same_rows}
use Rattle.alg_model.proofs.Joins.{unbound_elsewhere, IsRowOf, AreRowsOf, LooksAt, LooksAt-both, rows-join, once-join}

-- each of these variables has a number below n
abbrev pub AreBelow : ℕ → List ℕ → Type 0
AreBelow n vars = (var : ℕ) → Contains vars var → var < n

-- the same rows, of which the same is said in other words
AreRowsOf-same : {V : Type 0} (n : ℕ) (vs ws : List ℕ) (P Q : Row V → Type 0) (rows others : List (Row V)) → vs ≡ ws → others ≡ rows → ((row : Row V) → P row ↔ Q row) → AreRowsOf n vs P rows → AreRowsOf n ws Q others
AreRowsOf-same n vs ws P Q rows others vars list facts are = record {
  sound = λ row h.
      let is = are.sound row (subst (λ rows. Contains rows row) list h) in
      record { width = is.width; binds = subst (BindsJust row) vars is.binds; holds = (facts row).0 is.holds };
  complete = λ row is.
      subst (λ rows. Contains rows row) (sym list)
      (are.complete row (record { width = is.width; binds = subst (BindsJust row) (sym vars) is.binds; holds = (facts row).1 is.holds }));
}

-- ---- lists of one row, and of none

module _ {V : Type 0} (n : ℕ) where
  -- the one row that binds nothing is the row that binds just no variable
  rows-unbound : (P : Row V → Type 0) → P (unbound V n) → AreRowsOf n [] P (unbound V n ∷ [])
  rows-unbound P holds = record {
    sound = λ row h. subst (IsRowOf n [] P) (Contains-single (unbound V n) row h) (record {
      width = width-unbound V n;
      binds = λ k. (λ some. let none = binding-unbound V n k in cc, λ at. absurd (Contains-nil k at));
      holds = holds;
    });
    complete = λ row is.
        let nothing : (k : ℕ) → ¬ Contains [] k = Contains-nil in
        let one = same_rows n (unbound V n) row (width-unbound V n) is.width (λ k. binding-unbound V n k ∙ sym (unbound_elsewhere row [] k is.binds (nothing k))) in
        subst (Contains (unbound V n ∷ [])) one (Contains-head (unbound V n) []);
  }

  -- no row has what none can have
  rows-nil : (vars : List ℕ) (P : Row V → Type 0) → ((row : Row V) → ¬ P row) → AreRowsOf n vars P []
  rows-nil vars P never = record { sound = λ row h. absurd (Contains-nil row h); complete = λ row is. absurd (never row is.holds) }

  -- a row that binds nothing, or no row
  rows-test : (b : Bool) → AreRowsOf n [] (λ row. IsTrue b) (option_to_list (if b then Some (unbound V n) else None))
  rows-test true = rows-unbound (λ row. IsTrue true) refl
  rows-test false = rows-nil [] (λ row. IsTrue false) (λ row h. cc)

  -- the one row that binds a variable to a value
  rows-single : (var : ℕ) (v : V) → var < n → AreRowsOf n (var ∷ []) (λ row. binding row var ≡ Some v) (single n var v ∷ [])
  rows-single var v low =
      let row = single n var v in
      let here : binding row var ≡ Some v = binding-single_same n var v low in
      let binds : BindsJust row (var ∷ []) = λ k. (
        λ some. elim (cases_eq k var) as (λ _. Contains (var ∷ []) k) [
          | inl is ↦ subst (Contains (var ∷ [])) (sym is) (Contains-head var [])
          | inr other ↦ let none = binding-single_other n var k v other in cc
        ],
        λ at. let is = Contains-single var k at in IsSome-from_value (binding row k) v (subst (λ k. binding row k ≡ Some v) is here),
      ) in
      record {
        sound = λ q h. subst (IsRowOf n (var ∷ []) (λ q. binding q var ≡ Some v)) (Contains-single row q h)
            (record { width = width-single n var v; binds = binds; holds = here });
        complete = λ q is.
            let same : (k : ℕ) → binding row k ≡ binding q k = λ k. elim (cases_eq k var) as (λ _. binding row k ≡ binding q k) [
              | inl at ↦ subst (λ k. binding row k ≡ binding q k) (sym at) (here ∙ sym is.holds)
              | inr other ↦ binding-single_other n var k v other ∙ sym (unbound_elsewhere q (var ∷ []) k is.binds (λ at. other (sym (Contains-single var k at))))
            ] in
            subst (Contains (row ∷ [])) (same_rows n row q (width-single n var v) is.width same) (Contains-head row []);
      }

-- ---- both_rows is a Join

-- an item that may be there, as the Join of two lists of one row gives it
option_as_list : {Y : Type 0} (o : Option Y) → option_to_list o ≡ cons_option o [] ++ []
option_as_list None = refl
option_as_list (Some y) = refl

-- two rows as one, as the Join of their lists
both_rows_as_join : {V : Type 0} (test : V → V → Bool) (r s : Option (Row V)) → option_to_list (both_rows test r s) ≡ join test (option_to_list r) (option_to_list s)
both_rows_as_join test None s = refl
both_rows_as_join test (Some r) None = refl
both_rows_as_join test (Some r) (Some s) = option_as_list (merged test r s)

module _ {V X : Type 0} (interpretation : Interpretation V X) (tells : TellsValues interpretation) (n : ℕ) where
  -- ---- a place

  -- what a place matches is the row that binds just its variable and makes it the value
  rows_of_place : (place : Place) (value : V) → AreBelow n (place_vars place) → AreRowsOf n (place_vars place) (λ row. Becomes interpretation row place value) (option_to_list (place_row interpretation n place value))
  rows_of_place (places.Term text) value below = rows-test n (interpretation.stands_for value text)
  rows_of_place (places.Var var) value below = rows-single n var.0 value (below var.0 (Contains-head var.0 []))

  -- what a place becomes depends on its variable alone
  looks_place : (place : Place) (value : V) → LooksAt (place_vars place) (λ row. Becomes interpretation row place value)
  looks_place (places.Term text) value = record { along = λ r s same is. is }
  looks_place (places.Var var) value = record { along = λ r s same is. sym (same var.0 (Contains-head var.0 [])) ∙ is }

  -- ---- a triple pattern and a triple

  -- what a triple pattern becomes depends on its variables alone
  pub looks_makes : (pattern : TriplePat) (triple : X) → LooksAt (triple_vars pattern) (λ row. Makes interpretation row pattern triple)
  looks_makes pattern triple =
      let s = place_vars pattern.subject in
      let p = place_vars pattern.predicate in
      let o = place_vars pattern.object in
      let first = λ (k : ℕ) (at : Contains (s ++ p) k). Contains-append_left (s ++ p) o k at in
      record {
        along = λ r q same makes. record {
          subject = (looks_place pattern.subject (interpretation.subject triple)).along r q (λ k at. same k (first k (Contains-append_left s p k at))) makes.subject;
          predicate = (looks_place pattern.predicate (interpretation.predicate triple)).along r q (λ k at. same k (first k (Contains-append_right s p k at))) makes.predicate;
          object = (looks_place pattern.object (interpretation.object triple)).along r q (λ k at. same k (Contains-append_right (s ++ p) o k at)) makes.object;
        };
      }

  -- the match of a triple is the row that binds just the variables of the pattern and makes it the triple
  pub rows_of_match : (pattern : TriplePat) (triple : X) → AreBelow n (triple_vars pattern) → AreRowsOf n (triple_vars pattern) (λ row. Makes interpretation row pattern triple) (option_to_list (match_of interpretation n pattern triple))
  rows_of_match pattern triple below =
      let test = interpretation.same in
      let s = place_vars pattern.subject in
      let p = place_vars pattern.predicate in
      let o = place_vars pattern.object in
      let S : Row V → Type 0 = λ row. Becomes interpretation row pattern.subject (interpretation.subject triple) in
      let P : Row V → Type 0 = λ row. Becomes interpretation row pattern.predicate (interpretation.predicate triple) in
      let O : Row V → Type 0 = λ row. Becomes interpretation row pattern.object (interpretation.object triple) in
      let rs = place_row interpretation n pattern.subject (interpretation.subject triple) in
      let rp = place_row interpretation n pattern.predicate (interpretation.predicate triple) in
      let ro = place_row interpretation n pattern.object (interpretation.object triple) in
      let looks_s = looks_place pattern.subject (interpretation.subject triple) in
      let looks_p = looks_place pattern.predicate (interpretation.predicate triple) in
      let looks_o = looks_place pattern.object (interpretation.object triple) in
      let below_first = λ (k : ℕ) (at : Contains (s ++ p) k). below k (Contains-append_left (s ++ p) o k at) in
      let are_s = rows_of_place pattern.subject (interpretation.subject triple) (λ k at. below_first k (Contains-append_left s p k at)) in
      let are_p = rows_of_place pattern.predicate (interpretation.predicate triple) (λ k at. below_first k (Contains-append_right s p k at)) in
      let are_o = rows_of_place pattern.object (interpretation.object triple) (λ k at. below k (Contains-append_right (s ++ p) o k at)) in
      let first = rows-join test tells n s p S P (option_to_list rs) (option_to_list rp) are_s are_p looks_s looks_p in
      let both = join test (option_to_list rs) (option_to_list rp) in
      let all = rows-join test tells n (s ++ p) o (λ row. S row × P row) O both (option_to_list ro) first are_o (LooksAt-both s p S P looks_s looks_p) looks_o in
      let list = both_rows_as_join test (both_rows test rs rp) ro ∙ ap (λ rows. join test rows (option_to_list ro)) (both_rows_as_join test rs rp) in
      AreRowsOf-same n (triple_vars pattern) (triple_vars pattern) (λ row. (S row × P row) × O row) (λ row. Makes interpretation row pattern triple) (join test both (option_to_list ro)) (option_to_list (match_of interpretation n pattern triple)) refl list
      (λ row. (λ h. record { subject = h.0.0; predicate = h.0.1; object = h.1 }, λ m. ((m.subject, m.predicate), m.object))) all

  -- ---- a triple pattern and a list of triples

  module _ (triples : List X) where
    -- the row makes the triple pattern one of the triples
    abbrev MakesOne : TriplePat → Row V → Type 0
    MakesOne pattern row = Any (Makes interpretation row pattern) triples

    -- this depends on the variables of the pattern alone
    looks_makes_one : (pattern : TriplePat) → LooksAt (triple_vars pattern) (MakesOne pattern)
    looks_makes_one pattern = record { along = λ r q same a. (a.0, a.1, a.2, a.3, (looks_makes pattern a.1).along r q same a.4) }

    -- the matches, as a `flat_map` over the triples
    matches_as_flat_map : (pattern : TriplePat) → matches_of interpretation n pattern triples ≡ flat_map (λ t. option_to_list (match_of interpretation n pattern t)) triples
    matches_as_flat_map pattern = filter_map_as_flat_map (match_of interpretation n pattern) triples

    -- the matches are the rows that bind just the variables of the pattern and make it one of the triples
    rows_of_matches : (pattern : TriplePat) → AreBelow n (triple_vars pattern) → AreRowsOf n (triple_vars pattern) (MakesOne pattern) (matches_of interpretation n pattern triples)
    rows_of_matches pattern below =
        let each = λ (t : X). option_to_list (match_of interpretation n pattern t) in
        let are = λ (t : X). rows_of_match pattern t below in
        AreRowsOf-same n (triple_vars pattern) (triple_vars pattern) (MakesOne pattern) (MakesOne pattern) (flat_map each triples) (matches_of interpretation n pattern triples) refl (matches_as_flat_map pattern) (λ row. (λ h. h, λ h. h)) (record {
          sound = λ row h.
              let from = source-flat_map each triples row h in
              let is = (are from.0).sound row from.2 in
              record { width = is.width; binds = is.binds; holds = (from.1.0, from.0, from.1.1, from.1.2, is.holds) };
          complete = λ row is.
              let one = is.holds in
              Contains-flat_map each triples one.1 row (one.0, one.2, one.3)
              ((are one.1).complete row (record { width = is.width; binds = is.binds; holds = one.4 }));
        })

    -- under one row a place becomes one value of the triples
    one_place : (place : Place) (part : X → V) → HasOneValue interpretation part triples → (row : Row V) (t u : X) → Contains triples t → Contains triples u →
        Becomes interpretation row place (part t) → Becomes interpretation row place (part u) → part t ≡ part u
    one_place (places.Term text) part one row t u at_t at_u p q = one t u text at_t at_u p q
    one_place (places.Var var) part one row t u at_t at_u p q = cc

    -- two of the triples that a triple pattern becomes under one row are one
    one_made : TellsTriples interpretation triples → (pattern : TriplePat) (row : Row V) (t u : X) → Contains triples t → Contains triples u →
        Makes interpretation row pattern t → Makes interpretation row pattern u → t ≡ u
    one_made apart pattern row t u at_t at_u p q = apart.one_triple t u at_t at_u
        (one_place pattern.subject interpretation.subject apart.subjects row t u at_t at_u p.subject q.subject)
        (one_place pattern.predicate interpretation.predicate apart.predicates row t u at_t at_u p.predicate q.predicate)
        (one_place pattern.object interpretation.object apart.objects row t u at_t at_u p.object q.object)

    -- no match stands twice
    once_matches : TellsTriples interpretation triples → (pattern : TriplePat) → AreBelow n (triple_vars pattern) → AllPairs (λ t u. t ≢ u) triples → AllPairs (λ r s. r ≢ s) (matches_of interpretation n pattern triples)
    once_matches apart pattern below once =
        subst (AllPairs (λ r s. r ≢ s)) (sym (matches_as_flat_map pattern))
        (once-flat_map (λ t. option_to_list (match_of interpretation n pattern t)) triples once (λ t _. AllPairs-option (λ r s. r ≢ s) (match_of interpretation n pattern t))
        (λ t u row at_t at_u at at'. one_made apart pattern row t u at_t at_u ((rows_of_match pattern t below).sound row at).holds ((rows_of_match pattern u below).sound row at').holds))

    -- ---- a list of triple patterns

    -- the rows so far, joined with the matches of one more triple pattern
    abbrev step : List (Row V) → TriplePat → List (Row V)
    step rows pattern = join interpretation.same rows (matches_of interpretation n pattern triples)

    -- the variables of the first triple pattern are below n
    below_first : (pattern : TriplePat) (patterns : List TriplePat) → AreBelow n (flat_map triple_vars (pattern ∷ patterns)) → AreBelow n (triple_vars pattern)
    below_first pattern patterns below k at = below k (Contains-append_left (triple_vars pattern) (flat_map triple_vars patterns) k at)

    -- and those of the rest
    below_rest : (pattern : TriplePat) (patterns : List TriplePat) → AreBelow n (flat_map triple_vars (pattern ∷ patterns)) → AreBelow n (flat_map triple_vars patterns)
    below_rest pattern patterns below k at = below k (Contains-append_right (triple_vars pattern) (flat_map triple_vars patterns) k at)

    -- one more triple pattern: the rows make it one of the triples too
    rows_of_step : (vs : List ℕ) (P : Row V → Type 0) (rows : List (Row V)) (pattern : TriplePat) → LooksAt vs P → AreRowsOf n vs P rows → AreBelow n (triple_vars pattern) →
        AreRowsOf n (vs ++ triple_vars pattern) (λ row. P row × MakesOne pattern row) (step rows pattern)
    rows_of_step vs P rows pattern looks are below =
        rows-join interpretation.same tells n vs (triple_vars pattern) P (MakesOne pattern) rows (matches_of interpretation n pattern triples) are (rows_of_matches pattern below) looks (looks_makes_one pattern)

    -- a list of triple patterns: the rows make each of them one of the triples
    rows_of_fold : (patterns : List TriplePat) (vs : List ℕ) (P : Row V → Type 0) (rows : List (Row V)) → LooksAt vs P → AreRowsOf n vs P rows → AreBelow n (flat_map triple_vars patterns) →
        AreRowsOf n (vs ++ flat_map triple_vars patterns) (λ row. P row × All (λ pattern. MakesOne pattern row) patterns) (fold step rows patterns)
    rows_of_fold [] vs P rows looks are below =
        AreRowsOf-same n vs (vs ++ []) P (λ row. P row × All (λ pattern. MakesOne pattern row) []) rows rows (sym (append-nil vs)) refl
        (λ row. (λ h. (h, All-nil (λ pattern. MakesOne pattern row)), λ h. h.0)) are
    rows_of_fold (pattern ∷ patterns) vs P rows looks are below =
        let mine = triple_vars pattern in
        let rest = flat_map triple_vars patterns in
        let Q : Row V → Type 0 = λ row. P row × MakesOne pattern row in
        let made = λ (row : Row V). λ (pattern : TriplePat). MakesOne pattern row in
        let later = rows_of_fold patterns (vs ++ mine) Q (step rows pattern) (LooksAt-both vs mine P (MakesOne pattern) looks (looks_makes_one pattern))
        (rows_of_step vs P rows pattern looks are (below_first pattern patterns below)) (below_rest pattern patterns below) in
        AreRowsOf-same n (vs ++ mine ++ rest) (vs ++ (mine ++ rest)) (λ row. Q row × All (λ pattern. MakesOne pattern row) patterns) (λ row. P row × All (λ pattern. MakesOne pattern row) (pattern ∷ patterns))
        (fold step (step rows pattern) patterns) (fold step (step rows pattern) patterns) (append_assoc vs mine rest) refl
        (λ row. (λ h. (h.0.0, All-cons (made row) pattern patterns h.0.1 h.1), λ h. ((h.0, All-head (made row) pattern patterns h.1), All-tail (made row) pattern patterns h.1))) later

    -- no row stands twice
    once_fold : TellsTriples interpretation triples → AllPairs (λ t u. t ≢ u) triples → (patterns : List TriplePat) (vs : List ℕ) (P : Row V → Type 0) (rows : List (Row V)) → LooksAt vs P → AreRowsOf n vs P rows → AreBelow n (flat_map triple_vars patterns) →
        AllPairs (λ r s. r ≢ s) rows → AllPairs (λ r s. r ≢ s) (fold step rows patterns)
    once_fold apart distinct [] vs P rows looks are below once = once
    once_fold apart distinct (pattern ∷ patterns) vs P rows looks are below once =
        let first = below_first pattern patterns below in
        let mine = triple_vars pattern in
        once_fold apart distinct patterns (vs ++ mine) (λ row. P row × MakesOne pattern row) (step rows pattern) (LooksAt-both vs mine P (MakesOne pattern) looks (looks_makes_one pattern))
        (rows_of_step vs P rows pattern looks are first) (below_rest pattern patterns below)
        (once-join interpretation.same tells n vs mine P (MakesOne pattern) rows (matches_of interpretation n pattern triples) are (rows_of_matches pattern first) once (once_matches apart pattern first distinct))

  -- ---- a basic graph pattern

  -- the one row to begin with binds nothing, and nothing is asked of it
  rows_of_none : AreRowsOf n [] (λ (row : Row V). ⊤) (unbound V n ∷ [])
  rows_of_none = rows-unbound n (λ row. ⊤) tt

  -- this depends on no variable
  looks_none : LooksAt [] (λ (row : Row V). ⊤)
  looks_none = record { along = λ r s same h. h }

  -- the rows of a basic graph pattern are exactly its solutions
  pub basic-exactly : (patterns : List TriplePat) (triples : List X) → HasVarsBelow n (Bgp patterns) → (row : Row V) → Contains (bgp_rows interpretation n patterns triples) row ↔ IsSolution interpretation n patterns triples row
  basic-exactly patterns triples below row =
      let vars = flat_map triple_vars patterns in
      let are = rows_of_fold triples patterns [] (λ row. ⊤) (unbound V n ∷ []) looks_none rows_of_none (λ k at. All-contains (λ k. k < n) vars k below at) in (
        λ h. let is = are.sound row h in record { width = is.width; binds = is.binds; made = is.holds.1 },
        λ is. are.complete row (record { width = is.width; binds = is.binds; holds = (tt, is.made) }),
      )

  -- over triples without repeats no row of it stands twice
  pub basic-once : (patterns : List TriplePat) (triples : List X) → TellsTriples interpretation triples → HasVarsBelow n (Bgp patterns) → AllPairs (λ t u. t ≢ u) triples → AllPairs (λ r s. r ≢ s) (bgp_rows interpretation n patterns triples)
  basic-once patterns triples apart below distinct =
      let vars = flat_map triple_vars patterns in
      once_fold triples apart distinct patterns [] (λ row. ⊤) (unbound V n ∷ []) looks_none rows_of_none (λ k at. All-contains (λ k. k < n) vars k below at) (AllPairs-option (λ r s. r ≢ s) (Some (unbound V n)))

  -- both in one
  pub basic-solutions : (patterns : List TriplePat) (triples : List X) → TellsTriples interpretation triples → HasVarsBelow n (Bgp patterns) → AllPairs (λ t u. t ≢ u) triples → AreSolutions interpretation n patterns triples (bgp_rows interpretation n patterns triples)
  basic-solutions patterns triples apart below distinct = record { exactly = basic-exactly patterns triples below; once = basic-once patterns triples apart below distinct }

-- values of terms are told apart by their texts
pub as_terms-values : TellsValues as_terms
as_terms-values v w = bytes_decides v w

-- a text is the value that stands for it
text_is_value : {X : Type 0} (place : X → List ℕ) (t u : X) (text : List ℕ) → IsTrue (as_terms.stands_for (place t) text) → IsTrue (as_terms.stands_for (place u) text) → place t ≡ place u
text_is_value place t u text p q = (bytes_decides (place t) text).0 p ∙ sym ((bytes_decides (place u) text).0 q)

-- and so are triples of terms
pub as_terms-triples : (triples : List Triple) → TellsTriples as_terms triples
as_terms-triples triples = record {
  subjects = λ t u text _ _. text_is_value as_terms.subject t u text;
  predicates = λ t u text _ _. text_is_value as_terms.predicate t u text;
  objects = λ t u text _ _. text_is_value as_terms.object t u text;
  one_triple = λ t u _ _ s p o. λ i. record { subject = s i; predicate = p i; object = o i };
}
