-- Passes leave the same where the members of their pairs hold the same, and agree in the same way on what they hold.
use Rattle.std.proofs.Common.{◌↔◌, List, [], ◌∷◌}
use Rattle.pruning_laws.specs.Passes.{reduce, first_pass, second_pass, two_passes}
use Rattle.pruning_laws.proofs.PassLaws.{OfEach, first_pass-within, second_pass-within}

module _ {M I : Type 0} (agree other : M → I → M → I → Type 0) (Some : M → Type 0) (whole : M → I → Type 0) (same : (m n : M) (i j : I) → Some m → Some n → whole m i → whole n j → agree m i n j ↔ other m i n j) where
  -- the members of a kind hold the same
  abbrev pub AreSame : (M → I → Type 0) → (M → I → Type 0) → Type 0
  AreSame held held' = (m : M) (i : I) → Some m → held m i ↔ held' m i

  -- and nothing but what is part of the whole
  abbrev pub ArePart : (M → I → Type 0) → Type 0
  ArePart held = (m : M) (i : I) → Some m → held m i → whole m i

  pub reduce-same : (by member : M) → Some by → (held held' : M → I → Type 0) → ArePart held → AreSame held held' → AreSame (reduce agree by member held) (reduce other by member held')
  reduce-same by member is held held' part same_held m i some = (
    λ h. (
      (same_held m i some).0 h.0,
      λ e. (let p = h.1 e in (p.0, (same_held by p.0 is).0 p.1, (same by m p.0 i is some (part by p.0 is p.1) (part m i some h.0)).0 p.2)),
    ),
    λ h. (
      (same_held m i some).1 h.0,
      λ e. (
          let p = h.1 e in
          let there = (same_held by p.0 is).1 p.1 in
          (p.0, there, (same by m p.0 i is some (part by p.0 is there) (part m i some ((same_held m i some).1 h.0))).1 p.2)
          ),
    ),
  )

  pub first_pass-same : (pairs : List (M × M)) → OfEach (λ m n. Some m × Some n) pairs → (held held' : M → I → Type 0) → ArePart held → AreSame held held' → AreSame (first_pass agree pairs held) (first_pass other pairs held')
  first_pass-same [] each held held' part same_held = same_held
  first_pass-same ((m, n) ∷ pairs) each held held' part same_held =
      first_pass-same pairs each.1 (reduce agree m n held) (reduce other m n held') (λ k i some h. part k i some h.0) (reduce-same m n each.0.0 held held' part same_held)

  pub second_pass-same : (pairs : List (M × M)) → OfEach (λ m n. Some m × Some n) pairs → (held held' : M → I → Type 0) → ArePart held → AreSame held held' → AreSame (second_pass agree pairs held) (second_pass other pairs held')
  second_pass-same [] each held held' part same_held = same_held
  second_pass-same ((m, n) ∷ pairs) each held held' part same_held =
      reduce-same n m each.0.1 (second_pass agree pairs held) (second_pass other pairs held') (λ k i some h. part k i some (second_pass-within agree pairs held k i h))
      (second_pass-same pairs each.1 held held' part same_held)

  pub two_passes-same : (pairs : List (M × M)) → OfEach (λ m n. Some m × Some n) pairs → (held held' : M → I → Type 0) → ArePart held → AreSame held held' → AreSame (two_passes agree pairs held) (two_passes other pairs held')
  two_passes-same pairs each held held' part same_held =
      second_pass-same pairs each (first_pass agree pairs held) (first_pass other pairs held') (λ k i some h. part k i some (first_pass-within agree pairs held k i h))
      (first_pass-same pairs each held held' part same_held)

-- ---- all members

each_pair : {M : Type 0} (pairs : List (M × M)) → OfEach (λ m n. Unit {0} × Unit {0}) pairs
each_pair [] = tt
each_pair (pair ∷ pairs) = ((tt, tt), each_pair pairs)

module _ {M I : Type 0} where
  -- they hold the same
  abbrev pub HoldSame : (M → I → Type 0) → (M → I → Type 0) → Type 0
  HoldSame held held' = (m : M) (i : I) → held m i ↔ held' m i

  -- and agree in the same way
  abbrev pub AgreeSame : (M → I → M → I → Type 0) → (M → I → M → I → Type 0) → Type 0
  AgreeSame agree other = (m n : M) (i j : I) → agree m i n j ↔ other m i n j

  reduce-all : (agree other : M → I → M → I → Type 0) → AgreeSame agree other → (by member : M) (held held' : M → I → Type 0) → HoldSame held held' → HoldSame (reduce agree by member held) (reduce other by member held')
  reduce-all agree other alike by member held held' same m i =
      reduce-same agree other (λ m. Unit {0}) (λ m i. Unit {0}) (λ m n i j a b c d. alike m n i j) by member tt held held' (λ m i some h. tt) (λ m i some. same m i) m i tt

  pub passes-all : (agree other : M → I → M → I → Type 0) → AgreeSame agree other → (pairs : List (M × M)) (held held' : M → I → Type 0) → HoldSame held held' → HoldSame (two_passes agree pairs held) (two_passes other pairs held')
  passes-all agree other alike pairs held held' same m i =
      two_passes-same agree other (λ m. Unit {0}) (λ m i. Unit {0}) (λ m n i j a b c d. alike m n i j) pairs (each_pair pairs) held held' (λ m i some h. tt) (λ m i some. same m i) m i tt

  -- a reduction, the passes over the other pairs, and the reduction back are the passes over all. What members hold that
  -- are not wanted in between, or not at the end, is not looked at
  pub passes_by_steps : (agree later last : M → I → M → I → Type 0) → AgreeSame later agree → AgreeSame last agree → (Between AtEnd : M → Type 0) → ((k : M) → AtEnd k → Between k) →
      (m n : M) → Between n → (pairs : List (M × M)) (start cut inner end : M → I → Type 0) →
      HoldSame cut (reduce agree m n start) → ((k : M) (i : I) → Between k → inner k i ↔ two_passes later pairs cut k i) → ((k : M) (i : I) → AtEnd k → end k i ↔ reduce last n m inner k i) →
      (k : M) (i : I) → AtEnd k → end k i ↔ two_passes agree ((m, n) ∷ pairs) start k i
  passes_by_steps agree later last alike alike' Between AtEnd wider m n by pairs start cut inner end first rest back k i wanted =
      let between : (k : M) (i : I) → Between k → inner k i ↔ two_passes agree pairs (reduce agree m n start) k i = λ k i some. (
        λ h. (passes-all later agree alike pairs cut (reduce agree m n start) first k i).0 ((rest k i some).0 h),
        λ h. (rest k i some).1 ((passes-all later agree alike pairs cut (reduce agree m n start) first k i).1 h),
      ) in
      let whole = reduce-same last agree Between (λ m i. Unit {0}) (λ m n i j a b c d. alike' m n i j) n m by inner (two_passes agree pairs (reduce agree m n start)) (λ m i some h. tt) between k i (wider k wanted) in
      (λ h. whole.0 ((back k i wanted).0 h), λ h. (back k i wanted).1 (whole.1 h))
