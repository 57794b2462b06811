-- Two passes keep what is consistent, and balance every pair.
use Rattle.std.proofs.Common.{◌≡◌, ◌≢◌, List, [], ◌∷◌, refl, sym, subst}
use Rattle.pruning_laws.specs.Passes.{HasPartner, reduce, first_pass, second_pass, two_passes}

module _ {M : Type 0} where
  -- the member stands in no pair
  abbrev pub IsFresh : M → List (M × M) → Type 0
  IsFresh m [] = Unit {0}
  IsFresh m ((k, l) ∷ pairs) = (k ≢ m) × ((l ≢ m) × IsFresh m pairs)

  -- the first member of a pair stands in no later pair
  abbrev pub GoOnce : List (M × M) → Type 0
  GoOnce [] = Unit {0}
  GoOnce ((m, n) ∷ pairs) = (n ≢ m) × (IsFresh m pairs × GoOnce pairs)

  -- of each pair
  abbrev pub OfEach : (M → M → Type 0) → List (M × M) → Type 0
  OfEach P [] = Unit {0}
  OfEach P ((m, n) ∷ pairs) = P m n × OfEach P pairs

  pub OfEach-weaker : (P Q : M → M → Type 0) → ((m n : M) → P m n → Q m n) → (pairs : List (M × M)) → OfEach P pairs → OfEach Q pairs
  OfEach-weaker P Q to [] each = tt
  OfEach-weaker P Q to ((m, n) ∷ pairs) each = (to m n each.0, OfEach-weaker P Q to pairs each.1)

module _ {M I : Type 0} where
  -- each item of the one is held by the other
  abbrev pub Within : (M → I → Type 0) → (M → I → Type 0) → Type 0
  Within less more = (m : M) (i : I) → less m i → more m i

module _ {M I : Type 0} (agree : M → I → M → I → Type 0) where
  abbrev pub IsSymmetric : Type 0
  IsSymmetric = (m : M) (i : I) (n : M) (j : I) → agree m i n j → agree n j m i

  -- each item of the other has a partner that the member holds
  abbrev pub Supports : (M → I → Type 0) → M → M → Type 0
  Supports held member other = (j : I) → held other j → HasPartner agree held member other j

  abbrev pub Balanced : (M → I → Type 0) → M → M → Type 0
  Balanced held m n = Supports held m n × Supports held n m

  -- ---- the passes drop items alone

  pub first_pass-within : (pairs : List (M × M)) (held : M → I → Type 0) → Within (first_pass agree pairs held) held
  first_pass-within [] held m i h = h
  first_pass-within ((k, l) ∷ pairs) held m i h = (first_pass-within pairs (reduce agree k l held) m i h).0

  pub second_pass-within : (pairs : List (M × M)) (held : M → I → Type 0) → Within (second_pass agree pairs held) held
  second_pass-within [] held m i h = h
  second_pass-within ((k, l) ∷ pairs) held m i h = second_pass-within pairs held m i h.0

  pub two_passes-within : (pairs : List (M × M)) (held : M → I → Type 0) → Within (two_passes agree pairs held) held
  two_passes-within pairs held m i h = first_pass-within pairs held m i (second_pass-within pairs (first_pass agree pairs held) m i h)

  -- ---- and none of a member that stands in no pair

  pub first_pass-fresh : (pairs : List (M × M)) (held : M → I → Type 0) (m : M) (i : I) → IsFresh m pairs → held m i → first_pass agree pairs held m i
  first_pass-fresh [] held m i fresh h = h
  first_pass-fresh ((k, l) ∷ pairs) held m i fresh h = first_pass-fresh pairs (reduce agree k l held) m i fresh.1.1 (h, λ e. absurd (fresh.1.0 (sym e)))

  pub second_pass-fresh : (pairs : List (M × M)) (held : M → I → Type 0) (m : M) (i : I) → IsFresh m pairs → held m i → second_pass agree pairs held m i
  second_pass-fresh [] held m i fresh h = h
  second_pass-fresh ((k, l) ∷ pairs) held m i fresh h = (second_pass-fresh pairs held m i fresh.1.1 h, λ e. absurd (fresh.0 (sym e)))

  pub two_passes-fresh : (pairs : List (M × M)) (held : M → I → Type 0) (m : M) (i : I) → IsFresh m pairs → held m i → two_passes agree pairs held m i
  two_passes-fresh pairs held m i fresh h = second_pass-fresh pairs (first_pass agree pairs held) m i fresh (first_pass-fresh pairs held m i fresh h)

  -- ---- what is balanced stays

  reduce-keeps : (less held : M → I → Type 0) (m n : M) → Within less held → Supports less m n → Within less (reduce agree m n held)
  reduce-keeps less held m n within support k i h = (within k i h, λ e. partner (support i (subst (λ k. less k i) e h)) e) where
    partner : HasPartner agree less m n i → k ≡ n → HasPartner agree held m k i
    partner has e = (has.0, within m has.0 has.1, subst (λ n. agree m has.0 n i) (sym e) has.2)

  first_pass-keep : (less held : M → I → Type 0) (pairs : List (M × M)) → Within less held → OfEach (Balanced less) pairs → Within less (first_pass agree pairs held)
  first_pass-keep less held [] within each = within
  first_pass-keep less held ((m, n) ∷ pairs) within each = first_pass-keep less (reduce agree m n held) pairs (reduce-keeps less held m n within each.0.0) each.1

  second_pass-keep : (less held : M → I → Type 0) (pairs : List (M × M)) → Within less held → OfEach (Balanced less) pairs → Within less (second_pass agree pairs held)
  second_pass-keep less held [] within each = within
  second_pass-keep less held ((m, n) ∷ pairs) within each = reduce-keeps less (second_pass agree pairs held) n m (second_pass-keep less held pairs within each.1) each.0.1

  pub two_passes-keep : (less held : M → I → Type 0) (pairs : List (M × M)) → Within less held → OfEach (Balanced less) pairs → Within less (two_passes agree pairs held)
  two_passes-keep less held pairs within each = second_pass-keep less (first_pass agree pairs held) pairs (first_pass-keep less held pairs within each) each

  -- ---- two passes balance every pair, where the first member of each stands in no later pair

  -- once m is cut to n, n supports it
  cut_supports : (held : M → I → Type 0) (m n : M) → n ≢ m → Supports (reduce agree n m held) n m
  cut_supports held m n apart i h =
      let p = h.1 refl in
      (p.0, (p.1, λ e. absurd (apart e)), p.2)

  -- and where m supported n before, it does after: what goes has no partner
  cut_keeps : IsSymmetric → (held : M → I → Type 0) (m n : M) → n ≢ m → Supports held m n → Supports (reduce agree n m held) m n
  cut_keeps symmetric held m n apart support j h =
      let p = support j h.0 in
      (p.0, (p.1, λ e. (j, h.0, symmetric m p.0 n j p.2)), p.2)

  -- other pairs stay balanced while a member is cut that stands in none of them
  others_stay : (held : M → I → Type 0) (m n : M) (pairs : List (M × M)) → IsFresh m pairs → OfEach (Balanced held) pairs → OfEach (Balanced (reduce agree n m held)) pairs
  others_stay held m n [] fresh each = tt
  others_stay held m n ((k, l) ∷ pairs) fresh each = (
    (
      λ j h. (let p = each.0.0 j h.0 in (p.0, (p.1, λ e. absurd (fresh.0 e)), p.2)),
      λ j h. (let p = each.0.1 j h.0 in (p.0, (p.1, λ e. absurd (fresh.1.0 e)), p.2)),
    ),
    others_stay held m n pairs fresh.1.1 each.1,
  )

  pub two_passes-balance : IsSymmetric → (pairs : List (M × M)) (held : M → I → Type 0) → GoOnce pairs → OfEach (Balanced (two_passes agree pairs held)) pairs
  two_passes-balance symmetric [] held once = tt
  two_passes-balance symmetric ((m, n) ∷ pairs) held once =
      let cut = reduce agree m n held in
      let inner = two_passes agree pairs cut in
      let forward : Supports inner m n = (λ j h.
      let before = two_passes-within pairs cut n j h in
      let p = before.1 refl in
      (p.0, two_passes-fresh pairs cut m p.0 once.1.0 (p.1, λ e. absurd (once.0 (sym e))), p.2)) in (
        (cut_keeps symmetric inner m n once.0 forward, cut_supports inner m n once.0),
        others_stay inner m n pairs once.1.0 (two_passes-balance symmetric pairs cut once.1.1),
      )
