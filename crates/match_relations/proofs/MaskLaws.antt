-- Masks that are taken one after another.
use Rattle.std.proofs.Common.{◌≡◌, ◌↔◌, ℕ, ◌+◌, ◌<◌, ◌≤◌, ◌^◌, map, List, [], ◌∷◌, ◌++◌, All, Some, None, sym, ap, ◌∙◌, subst, arith, append_assoc}
use Rattle.std.proofs.lemmas.Grind.{flat_map-append}
use Rattle.std.proofs.lemmas.List.{map-append}
use Rattle.std.proofs.lemmas.List.Elements.{All-contains, All-append, All-nil, All-cons, All-tail}
use Rattle.alg_model.proofs.Lists.{AllPairs-append, AllPairs-option}
use Rattle.bm_term.proofs.Elements.{Contains-single}
use Rattle.index_file.proofs.StoredLaws.{All-members}
use Rattle.mask_pool.specs.Mask.{Stretch, DoNotOverlap}
use Rattle.mask_pool.specs.Region.{Region, IsLive, IsIn, Stays}
use Rattle.pattern_rel.specs.Folds.{IsUsable}
use Rattle.pattern_rel.specs.Shapes.{KnowsColumns}
use Rattle.row_lanes.specs.Words.{Has}
use Rattle.index_file.specs.declared.counts.IndexCounts.{IndexCounts}
use Rattle.tree_relations.specs.declared.prepared.Entry.{Entry}
use Rattle.match_relations.specs.declared.borrowed.Borrowed.{Borrowed}
use Rattle.match_relations.specs.steps.Masks.{Bare, bare, bare_of, entry_words, words_in, masks_in, IsFull, AreMasks}

-- one more mask
pub take_one : (old new : Region) (bits : ℕ) (m : Stretch) (masks : List Stretch) → bits ≤ 2 ^ 23 → m.bits ≡ bits → IsLive new m → ((n : ℕ) → IsIn new m n ↔ (n < bits)) →
    ((o : Stretch) → IsLive old o → DoNotOverlap o m) → ((o : Stretch) → IsLive old o → Stays old new o) → AreMasks old masks → AreMasks new (masks ++ m ∷ [])
take_one old new bits m masks low is live full apart others are = record {
  usable = All-append (IsUsable new) masks (m ∷ []) (All-members (IsUsable new) masks (λ o at.
      let own = All-contains (IsUsable old) masks o are.usable at in
      record { live = (others o own.live).live; few = own.few }))
      (All-members (IsUsable new) (m ∷ []) (λ o at. subst (IsUsable new) (Contains-single m o at) (record { live = live; few = omega (arith, is) })));
  full = All-append (IsFull new) masks (m ∷ []) (All-members (IsFull new) masks (λ o at.
      let own = All-contains (IsUsable old) masks o are.usable at in
      let words = (others o own.live).words in
      λ n within. subst (λ ws. Has ws n) (sym words) (All-contains (IsFull old) masks o are.full at n within)))
      (All-members (IsFull new) (m ∷ []) (λ o at. subst (IsFull new) (Contains-single m o at) (λ n within. ((full n).1 (omega (arith, is, within))).1)));
  apart = AllPairs-append DoNotOverlap masks (m ∷ []) are.apart (AllPairs-option DoNotOverlap (Some m)) (λ o k at one.
      subst (DoNotOverlap o) (Contains-single m k one) (apart o (All-contains (IsUsable old) masks o are.usable at).live));
}

-- no masks
pub no_masks : (pool : Region) → AreMasks pool []
no_masks pool = record { usable = All-nil (IsUsable pool); full = All-nil (IsFull pool); apart = AllPairs-option DoNotOverlap None }

-- two more
pub take_two : (new : Region) (masks : List Stretch) (first second : Stretch) → AreMasks new ((masks ++ first ∷ []) ++ second ∷ []) → AreMasks new (masks ++ first ∷ second ∷ [])
take_two new masks first second are = subst (AreMasks new) (append_assoc masks (first ∷ []) (second ∷ [])) are

pub one_more_bits : (bits : ℕ) (masks : List Stretch) (m : Stretch) → All (λ (o : Stretch). o.bits ≡ bits) masks → m.bits ≡ bits → All (λ (o : Stretch). o.bits ≡ bits) (masks ++ m ∷ [])
one_more_bits bits masks m all is = All-append (λ (o : Stretch). o.bits ≡ bits) masks (m ∷ []) all (All-cons (λ (o : Stretch). o.bits ≡ bits) m [] is (All-nil (λ (o : Stretch). o.bits ≡ bits)))

-- ---- entries, one after another

pub entry_pushed : (c : IndexCounts) (es : List Entry) (e : Entry) (b : Borrowed) (rest after : List Borrowed) (whole : List Bare) → rest ≡ b ∷ after → bare e ≡ bare_of c b →
    map bare es ++ map (bare_of c) rest ≡ whole → map bare (es ++ e ∷ []) ++ map (bare_of c) after ≡ whole
entry_pushed c es e b rest after whole split is so_far =
    ap (λ xs. xs ++ map (bare_of c) after) (map-append bare es (e ∷ [])) ∙ append_assoc (map bare es) (bare e ∷ []) (map (bare_of c) after)
    ∙ ap (λ x. map bare es ++ x ∷ map (bare_of c) after) is ∙ sym (ap (λ bs. map bare es ++ map (bare_of c) bs) split) ∙ so_far

pub masks_pushed : (pool : Region) (work : List Stretch) (es : List Entry) (e : Entry) → AreMasks pool ((work ++ masks_in es) ++ e.rel.first ∷ e.rel.second ∷ []) → AreMasks pool (work ++ masks_in (es ++ e ∷ []))
masks_pushed pool work es e are =
    let own : List Stretch = e.rel.first ∷ e.rel.second ∷ [] in
    subst (AreMasks pool) (append_assoc work (masks_in es) own ∙ ap (λ ms. work ++ ms) (sym (flat_map-append (λ (e : Entry). e.rel.first ∷ e.rel.second ∷ []) es (e ∷ [])))) are

pub words_left : (c : IndexCounts) (b : Borrowed) (rest after : List Borrowed) (spare left : ℕ) → rest ≡ b ∷ after → words_in c rest ≡ spare → left + entry_words c b ≡ spare → words_in c after ≡ left
words_left c b rest after spare left split is took = let whole = ap (words_in c) split in omega arith

pub knows_left : (b : Borrowed) (rest after : List Borrowed) → rest ≡ b ∷ after → All (λ (b : Borrowed). KnowsColumns b.shape) rest → All (λ (b : Borrowed). KnowsColumns b.shape) after
knows_left b rest after split all = All-tail (λ (b : Borrowed). KnowsColumns b.shape) b after (subst (All (λ (b : Borrowed). KnowsColumns b.shape)) split all)
