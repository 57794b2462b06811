-- One triple more is taken: the places are as they should be, and what is kept is as a taker with a limit keeps it.
use Rattle.std.proofs.Common.{◌≡◌, ℕ, ◌==◌, ◌≢◌, inl, inr, Bool, true, false, not, ◌&&◌, ◌||◌, if◌then◌else◌, bytes_eq, List, [], ◌∷◌, ◌++◌, Some, Contains, All, length, map, Result, Ok, Err, OnErr, refl, sym, ap, ◌∙◌, subst}
use Rattle.std.proofs.lemmas.Bool.{eq-eqb, eqb-true}
use Rattle.std.proofs.lemmas.Bool.Decides.{Decides-and, Decides-eqb}
use Rattle.std.proofs.lemmas.List.{map-append, length-map}
use Rattle.std.proofs.lemmas.List.Elements.{All-head, All-tail, All-push, Contains-push, Contains-append_left}
use Rattle.std.proofs.lemmas.Map.Views.{Contains-from_any}
use Rattle.std.proofs.Math.Dec.{eqb}
use Rattle.std.specs.Bool.{Decides, one_answer}
use Rattle.std.specs.List.{list_any, IsDistinct}
use Rattle.indexmap.specs.IndexSet.{insert_key}
use Rattle.bm_term.specs.Kept.{triple_eq, after}
use Rattle.bm_term.specs.declared.triple.Triple.{Triple}
use Rattle.term_numbers.specs.Order.{Numbered}
use Rattle.term_numbers.specs.held.Renumbered.{PlacesAreBelow}
use Rattle.term_numbers.specs.held.Seen.{IsSeen, SeesTriple, triple_at, triples_at, AllAreSeen}
use Rattle.term_numbers.proofs.NumberingLaws.{one_place, Contains-map}
use Rattle.term_numbers.proofs.SeenLaws.{triple_at-seen, seen_at, below_seen, below-more, triples_at-more}
use Rattle.term_numbers.proofs.SightLaws.{triple_eq-Decides, kept_with}

-- ---- the test of places

abbrev pub number_eq : Numbered → Numbered → Bool
number_eq q r = (eqb q.0 r.0 && eqb q.1 r.1) && eqb q.2 r.2

number_eq-Decides : (q r : Numbered) → Decides (number_eq q r) (q ≡ r)
number_eq-Decides q r =
    let first = Decides-and (eqb q.0 r.0) (eqb q.1 r.1) (Decides-eqb q.0 r.0) (Decides-eqb q.1 r.1) in
    let all = Decides-and (eqb q.0 r.0 && eqb q.1 r.1) (eqb q.2 r.2) first (Decides-eqb q.2 r.2) in (
      λ h. let e = all.0 h in λ i. (e.0.0 i, e.0.1 i, e.1 i),
      λ same. all.1 ((ap (λ (w : Numbered). w.0) same, ap (λ (w : Numbered). w.1) same), ap (λ (w : Numbered). w.2) same),
    )

module _ (n p : List (List ℕ)) (q : Numbered) (t : Triple) (nodes_differ : IsDistinct bytes_eq n) (predicates_differ : IsDistinct bytes_eq p) (seen : IsSeen n p q t) where
  -- a triple is that at some places exactly where these are its places
  same_places : (r : Numbered) → PlacesAreBelow (length n) (length p) r → Decides (triple_eq t (triple_at n p r)) (q ≡ r)
  same_places r low =
      let at = seen_at n p r low in
      let test = triple_eq-Decides t (triple_at n p r) in (
        λ h.
            let same = sym (test.0 h) in
            let s = one_place n q.0 r.0 t.subject nodes_differ seen.subject (at.subject ∙ ap (λ (u : Triple). Some u.subject) same) in
            let m = one_place p q.1 r.1 t.predicate predicates_differ seen.predicate (at.predicate ∙ ap (λ (u : Triple). Some u.predicate) same) in
            let o = one_place n q.2 r.2 t.object nodes_differ seen.object (at.object ∙ ap (λ (u : Triple). Some u.object) same) in
            λ i. (s i, m i, o i),
        λ same. test.1 (sym (triple_at-seen n p q t seen) ∙ ap (triple_at n p) same),
      )

  -- so it is among triples exactly where its places are among theirs
  among_places : (ps : List Numbered) → All (PlacesAreBelow (length n) (length p)) ps → list_any (number_eq q) ps ≡ list_any (triple_eq t) (triples_at n p ps)
  among_places [] low = refl
  among_places (r ∷ ps) low =
      let first = one_answer (number_eq q r) (triple_eq t (triple_at n p r)) (number_eq-Decides q r) (same_places r (All-head (PlacesAreBelow (length n) (length p)) r ps low)) in
      let rest = among_places ps (All-tail (PlacesAreBelow (length n) (length p)) r ps low) in
      λ i. first i || rest i

-- ---- one triple more

true_from_not : (b : Bool) → not b ≡ false → b ≡ true
true_from_not true h = refl
true_from_not false h = sym h

abbrev predicates_of : List Triple → List (List ℕ)
predicates_of triples = map (λ t. t.predicate) triples

module _ (n n' p p' : List (List ℕ)) (ps : List Numbered) (q : Numbered) (t : Triple) (w : Bool) (unmarked : w ≡ false) (h : AllAreSeen w n p ps) (s : SeesTriple n n' p p' q t) where
  abbrev list : List Triple
  list = triples_at n p ps

  list_is : triples_at n' p' ps ≡ list
  list_is = triples_at-more n n' p p' s.nodes_more s.predicates_more ps h.below

  low : All (PlacesAreBelow (length n') (length p')) ps
  low = below-more n n' p p' s.nodes_more s.predicates_more ps h.below

  -- the triple is there where its places are
  there_is : list_any (number_eq q) ps ≡ list_any (triple_eq t) list
  there_is =
      among_places n' p' q t (s.nodes_more.differ h.nodes_differ) (s.predicates_more.differ h.predicates_differ) s.seen ps low
      ∙ ap (list_any (triple_eq t)) list_is

  -- each predicate is that of a triple of a list that has these and t
  only_in : (l : List Triple) → Contains l t → ((x : List ℕ) → Contains (predicates_of list) x → Contains (predicates_of l) x) → (x : List ℕ) → Contains p' x → Contains (predicates_of l) x
  only_in l at more x there = elim (s.only x there) as (λ _. Contains (predicates_of l) x) [
    | inl before ↦ more x (h.only unmarked x before)
    | inr same ↦ subst (Contains (predicates_of l)) (sym same) (Contains-map (λ (u : Triple). u.predicate) l t at)
  ]

  -- the places stay, and without the mark the triple is there
  pub AllAreSeen-stay : (there : Bool) → there ≡ list_any (number_eq q) ps → AllAreSeen (not there) n' p' ps
  AllAreSeen-stay there is = record {
    nodes_differ = s.nodes_more.differ h.nodes_differ;
    predicates_differ = s.predicates_more.differ h.predicates_differ;
    below = low;
    only = λ none x at.
        let here : list_any (triple_eq t) list ≡ true = sym there_is ∙ sym is ∙ true_from_not there none in
        let member : Contains list t = Contains-from_any (λ a b. (triple_eq-Decides a b).0) t list here in
        subst (λ l. Contains (predicates_of l) x) (sym list_is) (only_in list member (λ _ c. c) x at);
  }

  -- the list with the triple at the end
  pushed : triples_at n' p' (ps ++ q ∷ []) ≡ list ++ t ∷ []
  pushed = map-append (triple_at n' p') ps (q ∷ []) ∙ (λ i. list_is i ++ triple_at-seen n' p' q t s.seen i ∷ [])

  -- the places are put at the end, unless they are there
  pub AllAreSeen-put : AllAreSeen w n' p' (insert_key number_eq ps q)
  AllAreSeen-put = by (list_any (number_eq q) ps) refl
    where
      by : (b : Bool) → list_any (number_eq q) ps ≡ b → AllAreSeen w n' p' (if b then ps else ps ++ q ∷ [])
      by true e = subst (λ m. AllAreSeen m n' p' ps) (sym unmarked) (AllAreSeen-stay true (sym e))
      by false e = record {
        nodes_differ = s.nodes_more.differ h.nodes_differ;
        predicates_differ = s.predicates_more.differ h.predicates_differ;
        below = All-push (PlacesAreBelow (length n') (length p')) ps q low (below_seen n' p' q t s.seen);
        only = λ _ x at. subst (λ l. Contains (predicates_of l) x) (sym pushed)
            (only_in (list ++ t ∷ []) (Contains-push list t)
            (λ y c. subst (λ l. Contains l y) (sym (map-append (λ (u : Triple). u.predicate) list (t ∷ []))) (Contains-append_left (predicates_of list) (t.predicate ∷ []) y c)) x at);
      }

  put_is : triples_at n' p' (insert_key number_eq ps q) ≡ (if list_any (triple_eq t) list then list else list ++ t ∷ [])
  put_is = by (list_any (number_eq q) ps) ∙ ap (λ b. if b then list else list ++ t ∷ []) there_is
    where
      by : (b : Bool) → triples_at n' p' (if b then ps else ps ++ q ∷ []) ≡ (if b then list else list ++ t ∷ [])
      by true = list_is
      by false = pushed

  -- what is kept where the list is full
  pub after-full : (limit : ℕ) (there : Bool) → there ≡ list_any (number_eq q) ps → length ps ≡ limit
      → kept_with limit (triples_at n' p' ps) (not there) ≡ after (kept_with limit list w) t
  after-full limit there is full =
      by (list_any (triple_eq t) list) (is ∙ there_is) (length list == limit) (eq-eqb (length list) limit (length-map ps (triple_at n p) ∙ full))
      ∙ ap (λ m. after (kept_with limit list m) t) (sym unmarked)
    where
      by : (b : Bool) → there ≡ b → (c : Bool) → c ≡ true → kept_with limit (triples_at n' p' ps) (not there) ≡ (if b then kept_with limit list false else (if c then kept_with limit list true else kept_with limit (list ++ t ∷ []) false))
      by true e c d = λ i. kept_with limit (list_is i) (not (e i))
      by false e c d = (λ i. kept_with limit (list_is i) (not (e i))) ∙ ap (λ b. if b then kept_with limit list true else kept_with limit (list ++ t ∷ []) false) (sym d)

  -- and where it is not
  pub after-room : (limit : ℕ) → length ps ≢ limit → kept_with limit (triples_at n' p' (insert_key number_eq ps q)) w ≡ after (kept_with limit list w) t
  after-room limit room =
      (λ i. kept_with limit (put_is i) (unmarked i))
      ∙ by (list_any (triple_eq t) list) (length list == limit) (has_room (length list == limit) refl)
      ∙ ap (λ m. after (kept_with limit list m) t) (sym unmarked)
    where
      has_room : (c : Bool) → (length list == limit) ≡ c → c ≡ false
      has_room true d = absurd (room (sym (length-map ps (triple_at n p)) ∙ eqb-true (length list) limit d))
      has_room false d = refl

      by : (b c : Bool) → c ≡ false → kept_with limit (if b then list else list ++ t ∷ []) false ≡ (if b then kept_with limit list false else (if c then kept_with limit list true else kept_with limit (list ++ t ∷ []) false))
      by true c d = refl
      by false c d = ap (λ b. if b then kept_with limit list true else kept_with limit (list ++ t ∷ []) false) (sym d)

-- what is known holds at an error
pub given_OnErr : {T E P : Type 0} (r : Result T E) → P → OnErr r P
given_OnErr (Ok x) h = tt
given_OnErr (Err e) h = h
