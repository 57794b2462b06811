-- Distinct triples in the order of first sight, and what is kept of a list under a limit.
use Rattle.std.proofs.Common.{◌≡◌, ◌↔◌, ℕ, ◌+◌, ◌<◌, ◌≤◌, ◌==◌, ◌⊎◌, inl, inr, Bool, true, false, ◌&&◌, ◌||◌, if◌then◌else◌, bytes_eq, List, [], ◌∷◌, ◌++◌, Some, Contains, length, take, get_or, IsTrue, Result, Ok, Err, IfOk, OnOk, IfErr, refl, sym, ap, ◌∙◌, arith, true≢false, length-append}
use Rattle.std.proofs.lemmas.Bool.{eqb-true, eqb-false}
use Rattle.std.proofs.lemmas.Bool.Decides.{Decides-and}
use Rattle.std.proofs.lemmas.List.{take_more}
use Rattle.std.proofs.lemmas.List.Folds.{list_any-append}
use Rattle.std.proofs.lemmas.Map.Keys.{IsDistinct-push}
use Rattle.std.proofs.lemmas.Map.Made.{is_member-Decides, length-from_keys, IsDistinct-from_AllPairs}
use Rattle.std.proofs.Math.Bool.{or-false, or-true}
use Rattle.std.specs.Bool.{Decides, one_answer}
use Rattle.std.specs.Cmp.{IsEquivalence, decided}
use Rattle.std.specs.Cmp.Lexicographic.{bytes_decides}
use Rattle.std.specs.List.{list_any, IsDistinct}
use Rattle.std.specs.Set.{is_member}
use Rattle.indexmap.specs.IndexSet.{insert_key, insert_all}
use Rattle.bm_term.specs.Graph.{triple_cmp, graph_of}
use Rattle.bm_term.specs.Kept.{Kept, triple_eq, after, after_all}
use Rattle.bm_term.specs.declared.triple.Triple.{Triple}
use Rattle.bm_term.proofs.Sets.{AllPairs-ascending}
use Rattle.bm_term.proofs.Taking.{after_all-append}
use Rattle.bm_term.proofs.TripleOrder.{triple_cmp-total, triple_cmp-exact}
use Rattle.term_numbers.specs.Numbering.{Numbering, numbering_of}
use Rattle.term_numbers.specs.Sights.{first_sights, nothing_yet}
use Rattle.term_numbers.specs.declared.fault.NumberFault.{NumberFault}
use Rattle.term_numbers.specs.declared.fault.NumberFault.TheVariants.{TooManyTriples}
use Rattle.term_numbers.proofs.Ascending.{set_of-is, set_of-same}

-- ---- the test of triples

-- it tells whether two triples are equal
pub triple_eq-Decides : (t u : Triple) → Decides (triple_eq t u) (t ≡ u)
triple_eq-Decides t u =
    let first = Decides-and (bytes_eq t.subject u.subject) (bytes_eq t.predicate u.predicate) (bytes_decides t.subject u.subject) (bytes_decides t.predicate u.predicate) in
    let all = Decides-and (bytes_eq t.subject u.subject && bytes_eq t.predicate u.predicate) (bytes_eq t.object u.object) first (bytes_decides t.object u.object) in (
      λ h. let e = all.0 h in λ i. record { subject = e.0.0 i; predicate = e.0.1 i; object = e.1 i },
      λ same. all.1 ((ap (λ (w : Triple). w.subject) same, ap (λ (w : Triple). w.predicate) same), ap (λ (w : Triple). w.object) same),
    )

pub triple_eq-laws : IsEquivalence triple_eq
triple_eq-laws = decided triple_eq triple_eq-Decides

-- ---- the triples of first sight

-- no triple is there twice
sights_differ : (list ts : List Triple) → IsDistinct triple_eq list → IsDistinct triple_eq (insert_all triple_eq list ts)
sights_differ list [] h = h
sights_differ list (t ∷ ts) h = sights_differ (insert_key triple_eq list t) ts (by (list_any (triple_eq t) list) refl)
  where
    by : (b : Bool) → list_any (triple_eq t) list ≡ b → IsDistinct triple_eq (if b then list else list ++ t ∷ [])
    by true e = h
    by false e = IsDistinct-push triple_eq-laws list t h e

-- they are not fewer than those before
sights_grow : (list ts : List Triple) → length list ≤ length (insert_all triple_eq list ts)
sights_grow list [] = omega arith
sights_grow list (t ∷ ts) =
    let rest = sights_grow (insert_key triple_eq list t) ts in
    let one = by (list_any (triple_eq t) list) in
    omega (arith, rest, one)
  where
    by : (b : Bool) → length list ≤ length (if b then list else list ++ t ∷ [])
    by true = omega arith
    by false = omega (arith, length-append list (t ∷ []))

or_in_turn : (a b c : Bool) → ((a || b) || c) ≡ (a || (b || c))
or_in_turn true b c = refl
or_in_turn false b c = refl

-- a triple is there where it was there, or comes
sight_member : (list : List Triple) (t q : Triple) → is_member triple_eq (insert_key triple_eq list t) q ≡ (is_member triple_eq list q || triple_eq q t)
sight_member list t q = by (list_any (triple_eq t) list) refl
  where
    old : (c : Bool) → triple_eq q t ≡ c → list_any (triple_eq t) list ≡ true → is_member triple_eq list q ≡ (is_member triple_eq list q || c)
    old false d e = sym (or-false (is_member triple_eq list q))
    old true d e = ap (λ u. is_member triple_eq list u) ((triple_eq-Decides q t).0 d) ∙ e ∙ sym (or-true (is_member triple_eq list q))

    by : (b : Bool) → list_any (triple_eq t) list ≡ b → is_member triple_eq (if b then list else list ++ t ∷ []) q ≡ (is_member triple_eq list q || triple_eq q t)
    by true e = old (triple_eq q t) refl e
    by false e = list_any-append (triple_eq q) list (t ∷ []) ∙ ap (λ c. is_member triple_eq list q || c) (or-false (triple_eq q t))

sight_members : (list ts : List Triple) (q : Triple) → is_member triple_eq (insert_all triple_eq list ts) q ≡ (is_member triple_eq list q || is_member triple_eq ts q)
sight_members list [] q = sym (or-false (is_member triple_eq list q))
sight_members list (t ∷ ts) q =
    sight_members (insert_key triple_eq list t) ts q
    ∙ ap (λ c. c || is_member triple_eq ts q) (sight_member list t q)
    ∙ or_in_turn (is_member triple_eq list q) (triple_eq q t) (is_member triple_eq ts q)

-- the triples of first sight are those of the list
sights_are : (ts : List Triple) (t : Triple) → Contains (first_sights ts) t ↔ Contains ts t
sights_are ts t =
    let same : is_member triple_eq (first_sights ts) t ≡ is_member triple_eq ts t = sight_members [] ts t in
    let there = is_member-Decides triple_eq-Decides (first_sights ts) t in
    let here = is_member-Decides triple_eq-Decides ts t in
    ((λ at. here.0 (sym same ∙ there.1 at)), (λ at. there.0 (same ∙ here.1 at)))

-- they have the graph of the list
pub graph_of-first_sights : (ts : List Triple) → graph_of (first_sights ts) ≡ graph_of ts
graph_of-first_sights ts = set_of-same triple_cmp triple_cmp-total triple_cmp-exact (first_sights ts) ts (sights_are ts)

-- and are as many as it has
pub length-first_sights : (ts : List Triple) → length (first_sights ts) ≡ length (graph_of ts)
unfolding IsDistinct
length-first_sights ts =
    let is = set_of-is triple_cmp triple_cmp-total triple_cmp-exact ts in
    let apart : IsDistinct triple_eq (graph_of ts) = IsDistinct-from_AllPairs triple_eq-Decides (graph_of ts) (AllPairs-ascending triple_cmp triple_cmp-total (graph_of ts) is.ascends) in
    let members : (t : Triple) → is_member triple_eq (graph_of ts) t ≡ is_member triple_eq ts t = λ t.
    let there = is_member-Decides triple_eq-Decides (graph_of ts) t in
    let here = is_member-Decides triple_eq-Decides ts t in
    one_answer (is_member triple_eq (graph_of ts) t) (is_member triple_eq ts t) there ((λ h. (is.same t).1 (here.0 h)), (λ at. here.1 ((is.same t).0 at))) in
    length-from_keys triple_eq-laws (first_sights ts) ts (sights_differ [] ts tt) (sight_members [] ts)
    ∙ sym (length-from_keys triple_eq-laws (graph_of ts) ts apart members)

-- ---- what is kept

abbrev pub kept_with : ℕ → List Triple → Bool → Kept
kept_with limit list were_more = record { list = list; limit = Some limit; were_more = were_more }

-- with the mark nothing changes
marked_stays : (limit : ℕ) (list ts : List Triple) → after_all (kept_with limit list true) ts ≡ kept_with limit list true
marked_stays limit list [] = refl
marked_stays limit list (t ∷ ts) = marked_stays limit list ts

-- all are kept, or there are more than the limit
abbrev IsOutcome : ℕ → Kept → List Triple → Type 0
IsOutcome limit kept all = ((kept.were_more ≡ false) × (kept.list ≡ all) × (length all ≤ limit)) ⊎ ((kept.were_more ≡ true) × (limit < length all))

outcome : (limit : ℕ) (list ts : List Triple) → length list ≤ limit → IsOutcome limit (after_all (kept_with limit list false) ts) (insert_all triple_eq list ts)
outcome limit list [] low = inl (refl, refl, low)
outcome limit list (t ∷ ts) low = by (list_any (triple_eq t) list) (length list == limit) refl (λ l short. outcome limit l ts short)
  where
    by : (b c : Bool) → (length list == limit) ≡ c → ((l : List Triple) → length l ≤ limit → IsOutcome limit (after_all (kept_with limit l false) ts) (insert_all triple_eq l ts))
        → IsOutcome limit (after_all (if b then kept_with limit list false else (if c then kept_with limit list true else kept_with limit (list ++ t ∷ []) false)) ts) (insert_all triple_eq (if b then list else list ++ t ∷ []) ts)
    by true c d rest = rest list low
    by false true d rest =
        let full : length list ≡ limit = eqb-true (length list) limit d in
        let more = sights_grow (list ++ t ∷ []) ts in
        inr (ap (λ (k : Kept). k.were_more) (marked_stays limit list ts), omega (arith, full, more, length-append list (t ∷ [])))
    by false false d rest =
        let apart = eqb-false (length list) limit d in
        rest (list ++ t ∷ []) (omega (arith, low, apart, length-append list (t ∷ [])))

-- a new taker has the mark exactly where there are more than the limit
pub marked_where_more : (limit : ℕ) (ts : List Triple) → IsTrue (after_all (nothing_yet limit) ts).were_more ↔ (limit < length (first_sights ts))
marked_where_more limit ts = by (outcome limit [] ts (omega arith))
  where
    by : IsOutcome limit (after_all (nothing_yet limit) ts) (first_sights ts) → IsTrue (after_all (nothing_yet limit) ts).were_more ↔ (limit < length (first_sights ts))
    by (inl all) = let few = all.2 in ((λ marked. absurd (true≢false (sym marked ∙ all.0))), (λ more. absurd (omega (arith, few, more))))
    by (inr many) = ((λ marked. many.1), (λ more. many.0))

-- and without the mark it has the triples of first sight
pub kept_unmarked : (limit : ℕ) (ts : List Triple) → (after_all (nothing_yet limit) ts).were_more ≡ false → (after_all (nothing_yet limit) ts).list ≡ first_sights ts
kept_unmarked limit ts none = by (outcome limit [] ts (omega arith))
  where
    by : IsOutcome limit (after_all (nothing_yet limit) ts) (first_sights ts) → (after_all (nothing_yet limit) ts).list ≡ first_sights ts
    by (inl all) = all.1
    by (inr many) = absurd (true≢false (sym many.0 ∙ none))

-- one triple more of a list
pub after_all-step : (start kept kept' : Kept) (ts : List Triple) (i : ℕ) (t : Triple) → i < length ts → t ≡ get_or ts i t → kept ≡ after_all start (take i ts) → kept' ≡ after kept t → kept' ≡ after_all start (take (i + 1) ts)
after_all-step start kept kept' ts i t low is before now =
    now ∙ ap (λ k. after k t) before ∙ sym (after_all-append start (take i ts) (t ∷ []))
    ∙ ap (after_all start) (sym (take_more ts i t low ∙ ap (λ u. take i ts ++ u ∷ []) (sym is)))

-- ---- what is answered for a list

module _ (limit : ℕ) (ts : List Triple) (kept : Kept) (is : kept ≡ after_all (nothing_yet limit) ts) (r : Result Numbering NumberFault)
    (numbered : IfOk r (λ numbers. numbers ≡ numbering_of (graph_of kept.list))) (many : (r ≡ Err TooManyTriples) ↔ IsTrue kept.were_more) where
  -- where there is an answer, all are kept
  all_kept : (numbers : Numbering) → r ≡ Ok numbers → (kept.list ≡ first_sights ts) × (length (first_sights ts) ≤ limit)
  all_kept numbers answered = by (outcome limit [] ts (omega arith))
    where
      clash : r ≡ Ok numbers → r ≡ Err TooManyTriples → ⊥
      clash e d = cc

      by : IsOutcome limit (after_all (nothing_yet limit) ts) (first_sights ts) → (kept.list ≡ first_sights ts) × (length (first_sights ts) ≤ limit)
      by (inl all) = (ap (λ (k : Kept). k.list) is ∙ all.1, all.2)
      by (inr marked) = absurd (clash answered (many.1 (ap (λ (k : Kept). k.were_more) is ∙ marked.0)))

  -- so it is the numbering of the graph
  pub answer_numbers : IfOk r (λ numbers. numbers ≡ numbering_of (graph_of ts))
  answer_numbers = by r refl numbered
    where
      by : (q : Result Numbering NumberFault) → r ≡ q → IfOk q (λ numbers. numbers ≡ numbering_of (graph_of kept.list)) → IfOk q (λ numbers. numbers ≡ numbering_of (graph_of ts))
      by (Ok numbers) e h = h ∙ ap numbering_of (ap graph_of (all_kept numbers e).0 ∙ graph_of-first_sights ts)
      by (Err fault) e h = tt

  -- whose triples are within the limit
  pub answer_few : OnOk r (length (graph_of ts) ≤ limit)
  answer_few = by r refl
    where
      by : (q : Result Numbering NumberFault) → r ≡ q → OnOk q (length (graph_of ts) ≤ limit)
      by (Ok numbers) e = let few = (all_kept numbers e).1 in omega (arith, few, length-first_sights ts)
      by (Err fault) e = tt

  -- and too many are more than the limit
  pub answer_many : IfErr r (λ fault. fault ≡ TooManyTriples → limit < length (graph_of ts))
  answer_many = by r refl
    where
      by : (q : Result Numbering NumberFault) → r ≡ q → IfErr q (λ fault. fault ≡ TooManyTriples → limit < length (graph_of ts))
      by (Ok numbers) e = tt
      by (Err fault) e = λ same.
          let marked = ap (λ (k : Kept). k.were_more) (sym is) ∙ many.0 (e ∙ ap Err same) in
          let more = (marked_where_more limit ts).0 marked in
          omega (arith, more, length-first_sights ts)
