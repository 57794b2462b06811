-- What it means that the front of a text was read, and that no less of it was read than a rule allows.
use Rattle.std.proofs.Common.{◌≡◌, ℕ, ◌<◌, ◌≤◌, Bool, true, false, if◌then◌else◌, Option, Some, List, ◌++◌, length, refl, subst, arith}
use Rattle.query_tokens.specs.declared.token.TokenKind.{TokenKind}

-- what was read is of a rule for its kind
pub record Takes (Rule : TokenKind → List ℕ → Type 0) (text : List ℕ) (found : TokenKind × List ℕ) : Type 0 where
  pub front : List ℕ
  pub is : Rule found.0 front
  pub split : text ≡ front ++ found.1

-- what was read leaves no more than this rest, and where it leaves as much it is of this kind
pub record Reached (read : Option (TokenKind × List ℕ)) (kind : TokenKind) (more : List ℕ) : Type 0 where
  pub found : TokenKind × List ℕ
  pub read_is : read ≡ Some found
  pub least : length found.1 ≤ length more
  pub same : length found.1 ≡ length more → found.0 ≡ kind

-- just this kind, and no more than this rest
pub reached_as : (kind : TokenKind) (more rest : List ℕ) (read : Option (TokenKind × List ℕ)) → read ≡ Some (kind, rest) → length rest ≤ length more → Reached read kind more
reached_as kind more rest read e less = record { found = (kind, rest); read_is = e; least = less; same = λ _. refl }

-- another kind, and less than this rest
pub reached_past : (other kind : TokenKind) (more rest : List ℕ) (read : Option (TokenKind × List ℕ)) → read ≡ Some (other, rest) → length rest < length more → Reached read kind more
reached_past other kind more rest read e less = record { found = (other, rest); read_is = e; least = omega arith; same = λ h. absurd (omega arith) }

-- which way a test went, where something was read
pub by_test : {P : Type 0} (b : Bool) (x y : Option (TokenKind × List ℕ)) (found : TokenKind × List ℕ) → (if b then x else y) ≡ Some found → (b ≡ true → x ≡ Some found → P) → (b ≡ false → y ≡ Some found → P) → P
by_test true x y found e passes fails = passes refl e
by_test false x y found e passes fails = fails refl e

-- a member of one class and none of another
pub is_other : (p : ℕ → Bool) (c d : ℕ) (test : Bool) → (test ≡ true → c ≡ d) → p c ≡ true → p d ≡ false → test ≡ false
is_other p c d true same is other = let is_d = subst (λ x. p x ≡ true) (same refl) is in absurd (cc)
is_other p c d false same is other = refl
