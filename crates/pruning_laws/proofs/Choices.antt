-- Where all pairs are balanced and each first member stands in no later pair, every item is part of a choice: one item
-- for each member, which agree along every pair.
use Rattle.std.proofs.Common.{◌≡◌, ◌≢◌, ◌⊎◌, inl, inr, List, [], ◌∷◌, refl, sym, ◌∙◌, subst}
use Rattle.pruning_laws.proofs.PassLaws.{IsFresh, GoOnce, OfEach, IsSymmetric, Balanced}

module _ {M I : Type 0} (same : (m n : M) → (m ≡ n) ⊎ (m ≢ n)) where
  changed_by : (choice : M → I) (i : I) (k m : M) → (k ≡ m) ⊎ (k ≢ m) → I
  changed_by choice i k m (inl is) = i
  changed_by choice i k m (inr other) = choice k

  -- a choice with another item at one member
  changed : (choice : M → I) (m : M) (i : I) → M → I
  changed choice m i k = changed_by choice i k m (same k m)

  changed-at : (choice : M → I) (m : M) (i : I) → changed choice m i m ≡ i
  unfolding changed changed_by
  changed-at choice m i = by (same m m) where
    by : (cases : (m ≡ m) ⊎ (m ≢ m)) → changed_by choice i m m cases ≡ i
    by (inl is) = refl
    by (inr other) = absurd (other refl)

  changed-other : (choice : M → I) (m : M) (i : I) (k : M) → k ≢ m → changed choice m i k ≡ choice k
  unfolding changed changed_by
  changed-other choice m i k apart = by (same k m) where
    by : (cases : (k ≡ m) ⊎ (k ≢ m)) → changed_by choice i k m cases ≡ choice k
    by (inl is) = absurd (apart is)
    by (inr other) = refl

  module _ (agree : M → I → M → I → Type 0) (symmetric : IsSymmetric agree) (counts : M → Type 0) (held : M → I → Type 0) (base : M → I) (base_held : (m : M) → counts m → held m (base m)) where
    pub record IsChoice (pairs : List (M × M)) (first : M) (item : I) (choice : M → I) : Type 0 where
      pub at_first : choice first ≡ item
      pub held_by_each : (m : M) → counts m → held m (choice m)
      pub agreed : OfEach (λ m n. agree m (choice m) n (choice n)) pairs

    -- a member that stands in no pair may be changed
    agreed-changed : (pairs : List (M × M)) (choice : M → I) (m : M) (i : I) → IsFresh m pairs → OfEach (λ k l. agree k (choice k) l (choice l)) pairs → OfEach (λ k l. agree k (changed choice m i k) l (changed choice m i l)) pairs
    agreed-changed [] choice m i fresh agreed = tt
    agreed-changed ((k, l) ∷ pairs) choice m i fresh agreed = (
      subst (λ x. agree k x l (changed choice m i l)) (sym (changed-other choice m i k fresh.0)) (subst (λ y. agree k (choice k) l y) (sym (changed-other choice m i l fresh.1.0)) agreed.0),
      agreed-changed pairs choice m i fresh.1.1 agreed.1,
    )

    -- what is held stays held, where the new item is
    held-changed : (choice : M → I) (m : M) (i : I) → held m i → ((k : M) → counts k → held k (choice k)) → (k : M) → counts k → held k (changed choice m i k)
    held-changed choice m i held_i each k counted = elim (same k m) as (λ _. held k (changed choice m i k)) [
      | inl is ↦ subst (λ k. held k (changed choice m i k)) (sym is) (subst (held m) (sym (changed-at choice m i)) held_i)
      | inr other ↦ subst (held k) (sym (changed-other choice m i k other)) (each k counted)
    ]

    with_pair : (m n : M) (pairs : List (M × M)) (first : M) (item : I) (choice : M → I) (i : I) → n ≢ m → IsFresh m pairs → first ≢ m → held m i → agree m i n (choice n) → IsChoice pairs first item choice → IsChoice ((m, n) ∷ pairs) first item (changed choice m i)
    with_pair m n pairs first item choice i apart fresh other held_i agrees is = record {
      at_first = changed-other choice m i first other ∙ is.at_first;
      held_by_each = held-changed choice m i held_i is.held_by_each;
      agreed = (
        subst (λ x. agree m x n (changed choice m i n)) (sym (changed-at choice m i)) (subst (λ y. agree m i n y) (sym (changed-other choice m i n apart)) agrees),
        agreed-changed pairs choice m i fresh is.agreed,
      );
    }

    pub choose : (pairs : List (M × M)) → GoOnce pairs → OfEach (λ m n. counts m × counts n) pairs → OfEach (Balanced agree held) pairs → (first : M) (item : I) → held first item → (choice : M → I) × IsChoice pairs first item choice
    choose [] once each balanced first item held_item = (changed base first item, record { at_first = changed-at base first item; held_by_each = held-changed base first item held_item base_held; agreed = tt })
    choose ((m, n) ∷ pairs) once each balanced first item held_item = elim (same first m) as (λ _. (choice : M → I) × IsChoice ((m, n) ∷ pairs) first item choice) [
      | inl is ↦
          let held_m = subst (λ k. held k item) is held_item in
          let p = balanced.0.1 item held_m in
          let rest = choose pairs once.1.1 each.1 balanced.1 n p.0 p.1 in
          let choice = rest.0 in
          let agrees : agree m item n (choice n) = subst (λ y. agree m item n y) (sym rest.1.at_first) (symmetric n p.0 m item p.2) in (
            changed choice m item,
            record {
              at_first = subst (λ k. changed choice m item k ≡ item) (sym is) (changed-at choice m item);
              held_by_each = held-changed choice m item held_m rest.1.held_by_each;
              agreed = (
                subst (λ x. agree m x n (changed choice m item n)) (sym (changed-at choice m item)) (subst (λ y. agree m item n y) (sym (changed-other choice m item n once.0)) agrees),
                agreed-changed pairs choice m item once.1.0 rest.1.agreed,
              );
            },
          )
      | inr other ↦
          let rest = choose pairs once.1.1 each.1 balanced.1 first item held_item in
          let choice = rest.0 in
          let p = balanced.0.0 (choice n) (rest.1.held_by_each n each.0.1) in
          (changed choice m p.0, with_pair m n pairs first item choice p.0 once.0 once.1.0 other p.1 p.2 rest.1)
    ]
