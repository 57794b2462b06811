-- Laws of texts and triples in the order of first sight.
use Rattle.std.proofs.Common.{◌≡◌, ℕ, zero, suc, ◌⊎◌, inl, inr, Bool, true, false, bytes_eq, List, [], ◌∷◌, ◌++◌, Some, if◌then◌else◌, Contains, map, refl, sym, ◌∙◌, ap, subst, append_assoc, append-nil, length-append, arith, ◌<◌, length, get_or, All}
use Rattle.std.proofs.lemmas.List.{get_or_append_left}
use Rattle.std.proofs.lemmas.List.Elements.{All-head, All-tail, All-weaker, Contains-push_cases}
use Rattle.std.proofs.lemmas.Map.Keys.{IsDistinct-push}
use Rattle.std.proofs.lemmas.Option.{slice_get-get_or, get_or_from_slice_get}
use Rattle.std.specs.Cmp.Lexicographic.{same_text, nat_list_eq_equiv}
use Rattle.std.specs.List.{slice_get, list_any, IsDistinct}
use Rattle.indexmap.specs.IndexSet.{insert_key}
use Rattle.bm_term.specs.declared.triple.Triple.{Triple}
use Rattle.bm_term.specs.Graph.{graph_of}
use Rattle.term_numbers.specs.Numbering.{Numbering, numbering_of}
use Rattle.term_numbers.specs.Order.{Numbered}
use Rattle.term_numbers.specs.held.Numbered.{AreNumbersFor}
use Rattle.term_numbers.specs.held.Renumbered.{PlacesAreBelow}
use Rattle.term_numbers.specs.held.Seen.{Adds, IsPlaced, IsSeen, AreSeen, SeesTriple, IsSeenWhole, triple_at, triples_at, AllAreSeen}
use Rattle.term_numbers.proofs.EntryLaws.{place_inside}

-- what is at a place stays there where more is put at the end
pub slice_get-append : {X : Type 0} (xs more : List X) (i : ℕ) (x : X) → slice_get xs i ≡ Some x → slice_get (xs ++ more) i ≡ Some x
slice_get-append [] more i x h = cc
slice_get-append (y ∷ xs) more zero x h = h
slice_get-append (y ∷ xs) more (suc i) x h = slice_get-append xs more i x h

-- ---- texts with places

-- nothing more
pub Adds-none : (old new : List (List ℕ)) → new ≡ old → Adds old new
Adds-none old new same = record {
  more = [];
  is = same ∙ sym (append-nil old);
  differ = λ h. subst (IsDistinct bytes_eq) (sym same) h;
}

-- some more, and some more
pub Adds-trans : (a b c : List (List ℕ)) → Adds a b → Adds b c → Adds a c
Adds-trans a b c h k = record {
  more = h.more ++ k.more;
  is = k.is ∙ ap (λ l. l ++ k.more) h.is ∙ append_assoc a h.more k.more;
  differ = λ d. k.differ (h.differ d);
}

-- a text that is found at a place has it
pub IsPlaced-found : (old : List (List ℕ)) (text found : List ℕ) (place : ℕ) → slice_get old place ≡ Some found → found ≡ text → IsPlaced old old text place
IsPlaced-found old text found place at same = record {
  at = at ∙ ap Some same;
  adds = Adds-none old old refl;
  only = λ x there. inl there;
}

-- a text is put at the end if it is not there
module _ (old : List (List ℕ)) (text : List ℕ) where
  Adds-put : (b : Bool) → list_any (bytes_eq text) old ≡ b → Adds old (if b then old else old ++ text ∷ [])
  Adds-put true there = Adds-none old old refl
  Adds-put false none = record {
    more = text ∷ [];
    is = refl;
    differ = λ h. IsDistinct-push nat_list_eq_equiv old text h none;
  }

  only_put : (b : Bool) (x : List ℕ) → Contains (if b then old else old ++ text ∷ []) x → Contains old x ⊎ (x ≡ text)
  only_put true x there = inl there
  only_put false x there = elim (Contains-push_cases old text x there) as (λ _. Contains old x ⊎ (x ≡ text)) [ inl before ↦ inl before | inr same ↦ inr (sym same) ]

-- and then it has the place at which an equal text stands
pub IsPlaced-put : (old new : List (List ℕ)) (text : List ℕ) (place : ℕ) → new ≡ insert_key bytes_eq old text
    → ((k : List ℕ) × (slice_get new place ≡ Some k) × (bytes_eq text k ≡ true)) → IsPlaced old new text place
IsPlaced-put old new text place is stored = record {
  at = stored.1 ∙ ap Some (sym (same_text text stored.0 (sym stored.2)));
  adds = subst (Adds old) (sym is) (Adds-put old text (list_any (bytes_eq text) old) refl);
  only = λ x there. only_put old text (list_any (bytes_eq text) old) x (subst (λ l. Contains l x) is there);
}

-- ---- triples with places

-- the three terms of a triple have places
pub SeesTriple-placed : (n n' n'' p p' : List (List ℕ)) (i j k : ℕ) (t : Triple) → IsPlaced n n' t.subject i → IsPlaced n' n'' t.object k → IsPlaced p p' t.predicate j → SeesTriple n n'' p p' (i, j, k) t
SeesTriple-placed n n' n'' p p' i j k t s o q = record {
  seen = record {
    subject = subst (λ l. slice_get l i ≡ Some t.subject) (sym o.adds.is) (slice_get-append n' o.adds.more i t.subject s.at);
    predicate = q.at;
    object = o.at;
  };
  nodes_more = Adds-trans n n' n'' s.adds o.adds;
  predicates_more = q.adds;
  only = q.only;
}

-- ---- triples at places

-- a triple at places is that which was seen there
pub triple_at-seen : (n p : List (List ℕ)) (q : Numbered) (t : Triple) → IsSeen n p q t → triple_at n p q ≡ t
triple_at-seen n p q t h = λ i. record {
  subject = get_or_from_slice_get n q.0 t.subject [] h.subject i;
  predicate = get_or_from_slice_get p q.1 t.predicate [] h.predicate i;
  object = get_or_from_slice_get n q.2 t.object [] h.object i;
}

-- the triple at places of texts is seen there
pub seen_at : (n p : List (List ℕ)) (q : Numbered) → PlacesAreBelow (length n) (length p) q → IsSeen n p q (triple_at n p q)
seen_at n p q low = record {
  subject = slice_get-get_or n q.0 [] low.0;
  predicate = slice_get-get_or p q.1 [] low.1;
  object = slice_get-get_or n q.2 [] low.2;
}

pub AreSeen-at : (n p : List (List ℕ)) (ps : List Numbered) → All (PlacesAreBelow (length n) (length p)) ps → AreSeen n p ps (triples_at n p ps)
AreSeen-at n p [] low = tt
AreSeen-at n p (q ∷ ps) low = (seen_at n p q (All-head (PlacesAreBelow (length n) (length p)) q ps low), AreSeen-at n p ps (All-tail (PlacesAreBelow (length n) (length p)) q ps low))

-- the places of a triple that was seen are places of texts
pub below_seen : (n p : List (List ℕ)) (q : Numbered) (t : Triple) → IsSeen n p q t → PlacesAreBelow (length n) (length p) q
below_seen n p q t h = (place_inside n q.0 t.subject h.subject, place_inside p q.1 t.predicate h.predicate, place_inside n q.2 t.object h.object)

-- without the mark all triples were seen
pub IsSeenWhole-at : (n p : List (List ℕ)) (ps : List Numbered) (were_more : Bool) → AllAreSeen were_more n p ps → were_more ≡ false → IsSeenWhole n p ps (triples_at n p ps)
IsSeenWhole-at n p ps were_more h none = record {
  seen = AreSeen-at n p ps h.below;
  only = h.only none;
  below = h.below;
}

-- so what was numbered is what is kept
pub numbers_at : (n p n' p' : List (List ℕ)) (ps ps' : List Numbered) (were_more : Bool) (numbers : Numbering) → AllAreSeen were_more n p ps → were_more ≡ false → n' ≡ n → p' ≡ p → ps' ≡ ps → AreNumbersFor n' p' ps' numbers
    → numbers ≡ numbering_of (graph_of (triples_at n p ps))
numbers_at n p n' p' ps ps' were_more numbers h none nodes predicates places made =
    let numbered : AreNumbersFor n p ps numbers = subst (λ l. AreNumbersFor l p ps numbers) nodes (subst (λ l. AreNumbersFor n' l ps numbers) predicates (subst (λ l. AreNumbersFor n' p' l numbers) places made)) in
    numbered (triples_at n p ps) (IsSeenWhole-at n p ps were_more h none)

-- ---- more texts

module _ (n n' p p' : List (List ℕ)) (nodes_more : Adds n n') (predicates_more : Adds p p') where
  longer : (xs ys : List (List ℕ)) → Adds xs ys → (i : ℕ) → i < length xs → i < length ys
  longer xs ys h i low = omega (arith, low, ap length h.is, length-append xs h.more)

  same_at : (xs ys : List (List ℕ)) → Adds xs ys → (i : ℕ) → i < length xs → get_or ys i [] ≡ get_or xs i []
  same_at xs ys h i low = ap (λ l. get_or l i []) h.is ∙ get_or_append_left xs h.more [] i low

  -- places stay places of texts
  pub below-more : (ps : List Numbered) → All (PlacesAreBelow (length n) (length p)) ps → All (PlacesAreBelow (length n') (length p')) ps
  below-more ps low = All-weaker (PlacesAreBelow (length n) (length p)) (PlacesAreBelow (length n') (length p'))
      (λ q h. (longer n n' nodes_more q.0 h.0, longer p p' predicates_more q.1 h.1, longer n n' nodes_more q.2 h.2)) ps low

  -- and of the same triples
  pub triples_at-more : (ps : List Numbered) → All (PlacesAreBelow (length n) (length p)) ps → triples_at n' p' ps ≡ triples_at n p ps
  triples_at-more [] low = refl
  triples_at-more (q ∷ ps) low =
      let h = All-head (PlacesAreBelow (length n) (length p)) q ps low in
      let rest = triples_at-more ps (All-tail (PlacesAreBelow (length n) (length p)) q ps low) in
      let first : triple_at n' p' q ≡ triple_at n p q = λ i. record {
        subject = same_at n n' nodes_more q.0 h.0 i;
        predicate = same_at p p' predicates_more q.1 h.1 i;
        object = same_at n n' nodes_more q.2 h.2 i;
      } in
      λ i. first i ∷ rest i

-- all stays where there are more nodes
pub AllAreSeen-nodes : (were_more : Bool) (n n' p p' : List (List ℕ)) (ps : List Numbered) → Adds n n' → p' ≡ p → AllAreSeen were_more n p ps → AllAreSeen were_more n' p' ps
AllAreSeen-nodes were_more n n' p p' ps more same h =
    let none = Adds-none p p' same in
    let list = triples_at-more n n' p p' more none ps h.below in
    record {
      nodes_differ = more.differ h.nodes_differ;
      predicates_differ = none.differ h.predicates_differ;
      below = below-more n n' p p' more none ps h.below;
      only = λ unmarked x there. subst (λ l. Contains (map (λ (t : Triple). t.predicate) l) x) (sym list) (h.only unmarked x (subst (λ l. Contains l x) same there));
    }

pub triples_at-nodes : (were_more : Bool) (n n' p p' : List (List ℕ)) (ps : List Numbered) → Adds n n' → p' ≡ p → AllAreSeen were_more n p ps → triples_at n' p' ps ≡ triples_at n p ps
triples_at-nodes were_more n n' p p' ps more same h = triples_at-more n n' p p' more (Adds-none p p' same) ps h.below
