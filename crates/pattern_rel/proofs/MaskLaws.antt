-- Laws of masks of a pool: what a step on one mask leaves of the others, and what steps make of sets.
use Rattle.std.proofs.Common.{◌≡◌, ◌↔◌, ◌⊎◌, ℕ, ◌*◌, ◌<◌, ◌≤◌, List, [], ◌∷◌, length, filter, Bool, Option, Some, None, IfSome, IfNone, is_some, true, false, ◌∙◌, refl, sym, inl, inr, subst, arith}
use Rattle.std.proofs.lemmas.Bool.{both_ways, cases_Bool}
use Rattle.std.specs.List.{Contains}
use Rattle.row_lanes.specs.Words.{Has, Meets}
use Rattle.mask_pool.specs.Mask.{Stretch, words_for, DoNotOverlap}
use Rattle.mask_pool.specs.Region.{Region, words_of}
use Rattle.mask_pool.proofs.Loans.{length-words_of}
use Rattle.cube_slices.specs.Lines.{Line, LinesAscend, pairs_of}
use Rattle.cube_slices.specs.Folds.{IsRowKept, IsColumnKept}
use Rattle.pattern_rel.specs.Left.{Relation, pairs_left, is_left}
use Rattle.pattern_rel.specs.Shapes.{row_lines, row_of}
use Rattle.pattern_rel.specs.Folds.{IsUsable, CanFold, Keeps}
use Rattle.pattern_rel.specs.steps.Sets.{IsBeside}
use Rattle.pattern_rel.specs.declared.walk.Opened.{Opened}
use Rattle.pattern_rel.specs.steps.Opened.{IsOpened}
use Rattle.pattern_rel.proofs.SetLaws.{Has-within}
use Rattle.pattern_rel.proofs.PairLaws.{Contains-pairs_of, Contains-front}
use Rattle.pattern_rel.proofs.ShapeLaws.{row_of-row_has, row_zero, row_there}

-- ---- one step and the next

pub Keeps-then : (a b c : Region) (m : Stretch) → Keeps a b m → Keeps b c m → Keeps a c m
Keeps-then a b c m first second = record {
  words = refl;
  others = λ other live apart.
      let stays = first.others other live apart in
      let again = second.others other stays.live apart in
      record { live = again.live; words = again.words ∙ stays.words };
  live = λ other live. second.live other (first.live other live);
  spare = second.spare ∙ first.spare;
  room = second.room ∙ first.room;
}

pub IsUsable-kept : (old new : Region) (m other : Stretch) → Keeps old new m → IsUsable old other → IsUsable new other
IsUsable-kept old new m other keeps usable = record { live = keeps.live other usable.live; few = usable.few }

pub CanFold-kept : (old new : Region) (m own beside handed : Stretch) → Keeps old new m → CanFold old own beside handed → CanFold new own beside handed
CanFold-kept old new m own beside handed keeps can = record {
  first = IsUsable-kept old new m own keeps can.first;
  second = IsUsable-kept old new m beside keeps can.second;
  into = IsUsable-kept old new m handed keeps can.into;
  first_apart = can.first_apart;
  second_apart = can.second_apart;
}

pub ruleset kept = (Keeps-then, IsUsable-kept)

-- no more pairs are left than there are
pub left_few : (pool : Region) (rel : Relation) (n : ℕ) → length (pairs_of rel.lines) ≤ n → length (pairs_left pool rel) ≤ n
left_few pool rel n few = omega (arith, kept_le (is_left (words_of pool rel.first) (words_of pool rel.second)) (pairs_of rel.lines))
  where
    kept_le : (test : ℕ × ℕ → Bool) (ps : List (ℕ × ℕ)) → length (filter test ps) ≤ length ps
    kept_le test [] = omega arith
    kept_le test (p ∷ ps) =
        let rest = kept_le test ps in
        elim (cases_Bool (test p)) [ inl passes ↦ rw passes (omega arith) | inr fails ↦ rw fails (omega arith) ]

-- what a caller cites that folds again and again
pub ruleset folds = (Keeps-then, IsUsable-kept, CanFold-kept, left_few)

-- a mask that was not written has its words
pub words_kept : (old new : Region) (m other : Stretch) → Keeps old new m → IsUsable old other → DoNotOverlap m other → words_of new other ≡ words_of old other
words_kept old new m other keeps usable apart = (keeps.others other usable.live (omega arith)).words

-- there is room for the numbers of a mask that is no longer
pub within_room : (pool : Region) (own into : Stretch) (n : ℕ) → IsUsable pool own → words_for own.bits ≤ words_for into.bits → Has (words_of pool own) n → n < 64 * words_for into.bits
within_room pool own into n usable room has = omega (arith, Has-within n (words_of pool own) has, length-words_of pool own usable.live)

-- ---- what the steps of a fold make

-- a row is kept where its number meets the columns
pub row_kept : (rows columns : ℕ) (keep : List ℕ) (ls : List Line) → LinesAscend 0 rows columns ls → (n : ℕ) → IsRowKept keep ls n ↔ Meets keep (row_of n ls)
row_kept rows columns keep ls ascend n = (
  λ (c, there, has). (c, (Contains-pairs_of 0 rows columns ls n c ascend).0 there, has),
  λ (c, there, has). (c, (Contains-pairs_of 0 rows columns ls n c ascend).1 there, has),
)

-- a column is kept where it stands beside a row
pub column_kept : (rows columns : ℕ) (keep : List ℕ) (ls : List Line) → LinesAscend 0 rows columns ls → (c : ℕ) → IsColumnKept keep ls c ↔ IsBeside keep ls c
column_kept rows columns keep ls ascend c = (
  λ (n, there, has). (n, has, (Contains-pairs_of 0 rows columns ls n c ascend).0 there),
  λ (n, has, there). (n, (Contains-pairs_of 0 rows columns ls n c ascend).1 there, has),
)

-- the numbers of a row, where 0 stands beside them and is met
pub row_met : (xs keep : List ℕ) (n : ℕ) → (Has keep 0 × Contains xs n) ↔ Meets keep (row_of n (row_lines xs))
row_met xs keep n = (
  λ h. rw (row_of-row_has xs n h.1) (0, (Contains-front {X = ℕ} 0 [] 0).1 (inl refl), h.0),
  λ (c, there, has). (subst (λ (m : ℕ). Has keep m) (row_zero xs n c there) has, row_there xs n c there),
)

-- ---- steps one after the other, over facts alone

module _ {O W V M L : Type 0} where
  pub kept_copy : (O → L) → W ↔ (O × L) → V ↔ (W × M) → V ↔ (O × M)
  kept_copy within copied kept =
      (λ h. (let k = kept.0 h in ((copied.0 k.0).0, k.1)), λ h. kept.1 (copied.1 (h.0, within h.0), h.1))

  pub kept_rows : {K : Type 0} → (O → L) → W ↔ (K × L) → V ↔ (W × O) → K ↔ M → V ↔ (O × M)
  kept_rows within rows both same =
      (λ h. (let b = both.0 h in (b.1, same.0 (rows.0 b.0).0)), λ h. both.1 (rows.1 (same.1 h.1, within h.0), h.0))

  pub kept_gathered : {U : Type 0} → (O → L) → (W → ⊥) → V ↔ (W ⊎ (M × L)) → U ↔ (V × O) → U ↔ (O × M)
  kept_gathered within none added both = (
    λ h. (let b = both.0 h in elim (added.0 b.0) [ inl had ↦ absurd (none had) | inr new ↦ (b.1, new.0) ]),
    λ h. both.1 (added.1 (inr (h.1, within h.0)), h.0),
  )

-- ---- a side that has nothing but 0

module _ (firsts seconds : List ℕ) (ls slice : List Line) where
  pub some_opened : (o : Option Opened) → IfSome o (IsOpened 0 firsts seconds ls slice) → is_some o ≡ true → ((n c : ℕ) → Contains (row_of n ls) c → c ≡ 0) → Has seconds 0 × IsBeside firsts ls 0
  some_opened None found some zero = absurd (both_ways false refl some)
  some_opened (Some o) found some zero =
      let second = found.second in
      let is = zero o.first o.second second.2 in
      (subst (λ (m : ℕ). Has seconds m) is second.1, (o.first, found.has, subst (λ (m : ℕ). Contains (row_of o.first ls) m) is second.2))

  pub none_opened : (o : Option Opened) → IfNone o ((m : ℕ) → 0 ≤ m → Has firsts m → Meets seconds (row_of m ls) → ⊥) → is_some o ≡ false → (c : ℕ) → Has seconds c → IsBeside firsts ls c → ⊥
  none_opened None none some c met (n, has, there) = none n (omega arith) has (c, there, met)
  none_opened (Some o) none some c met beside = both_ways true some refl

  pub folded_zero : (room : ℕ) (old new : List ℕ) → Has seconds 0 × IsBeside firsts ls 0 → 0 < room → ((n c : ℕ) → Contains (row_of n ls) c → c ≡ 0) → ((c : ℕ) → Has old c → ⊥) → ((c : ℕ) → Has new c ↔ (Has old c ⊎ ((c ≡ 0) × (c < room)))) → (c : ℕ) → Has new c ↔ (Has seconds c × IsBeside firsts ls c)
  folded_zero room old new some within zero none added c = (
    λ h. elim ((added c).0 h) [ inl had ↦ absurd (none c had) | inr new ↦ subst (λ (m : ℕ). Has seconds m × IsBeside firsts ls m) (sym new.0) some ],
    λ h. (let is = zero h.1.0 c h.1.2 in (added c).1 (inr (is, omega arith))),
  )
