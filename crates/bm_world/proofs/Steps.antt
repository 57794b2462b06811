-- What holds over several calls of a world.
use Rattle.std.proofs.Common.{◌≡◌, ℕ, ◌≤◌, Option, None, Some, ⊎_elim, inl, inr, refl, sym, subst, arith}
use Rattle.std.proofs.Math.Nat.{eq-or-lt_of_le}
use Rattle.bm_world.specs.Meanings.{Meanings}
use Rattle.bm_world.specs.World.{Step, Rose}

-- what is told in one way only is one value
told_once : {t : Option Meanings} {m n : Meanings} → t ≡ Some m → t ≡ Some n → m ≡ n
told_once is also = cc

-- a call is followed by another
pub Step-then : {a b c : Option Meanings} {R S T : Meanings → Meanings → Type 0} → Step a b R → Step b c S → ((m k n : Meanings) → R m k → S k n → T m n) → Step a c T
Step-then {a} {b} {c} {R} {S} {T} first second both = record {
  silent = λ none. second.silent (first.silent none);
  moves = λ m n was is. at b refl m n was is;
}
  where
    at : (t : Option Meanings) → b ≡ t → (m n : Meanings) → a ≡ Some m → c ≡ Some n → T m n
    at None lost m n was is = let silent : c ≡ None = second.silent lost in cc
    at (Some k) mid m n was is = both m k n (first.moves m k was mid) (second.moves k n mid is)

-- what moved moved in a wider sense too
pub Step-weaken : {a b : Option Meanings} {R T : Meanings → Meanings → Type 0} → Step a b R → ((m n : Meanings) → R m n → T m n) → Step a b T
Step-weaken step wider = record {
  silent = step.silent;
  moves = λ m n was is. wider m n (step.moves m n was is);
}

-- no call was made
pub Step-stay : {a : Option Meanings} {R : Meanings → Meanings → Type 0} → ((m : Meanings) → R m m) → Step a a R
Step-stay {R = R} same = record {
  silent = λ none. none;
  moves = λ m n was is. subst (λ k. R m k) (told_once was is) (same m);
}

-- a world that tells its meanings
pub Step-told : {m n : Meanings} {R : Meanings → Meanings → Type 0} → R m n → Step (Some m) (Some n) R
Step-told {m} {n} {R} moved = record {
  silent = λ none. cc;
  moves = λ k l was is. subst (λ x. R x l) (told_once refl was) (subst (λ x. R m x) (told_once refl is) moved);
}

-- a count that did not fall before rose over all
pub rose_later : {before mid now : ℕ} → before ≤ mid → Rose mid now → Rose before now
rose_later later rose = ⊎_elim (λ more. inl (omega arith)) (λ last. inr last) rose

-- a count that rose and did not fall after it rose over all
pub rose_before : {before mid now : ℕ} → before ≤ mid → Rose before mid → mid ≤ now → Rose before now
rose_before {before} {mid} {now} first rose later = ⊎_elim (λ same. at (sym same) rose) (λ more. inl more) (eq-or-lt_of_le (omega (arith, first, later)))
  where
    at : now ≡ before → Rose before mid → Rose before now
    at same rose = ⊎_elim (λ more. inl (omega (arith, same, more, later))) (λ last. inr (omega (arith, same, last, first, later))) rose
