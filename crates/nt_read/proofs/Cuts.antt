-- The lines of bytes are between line ends, and no other lists do.
use Rattle.std.proofs.Common.{◌≡◌, ◌≢◌, ◌↔◌, inl, inr, ℕ, suc, true, false, ◌==◌, if◌then◌else◌, List, [], ◌∷◌, ◌++◌, refl, sym, ap, subst, arith}
use Rattle.std.proofs.lemmas.List.{append-nil}
use Rattle.std.proofs.lemmas.List.Elements.{All-nil, All-cons}
use Rattle.std.proofs.lemmas.Bool.{eqb-true, eqb-false}
use Rattle.std.proofs.lemmas.Bool.Decides.{eqb_tells}
use Rattle.memchr.specs.Find.{is_byte2}
use Rattle.nt_read.specs.scanning.Lines.{before_first_line, lines_after, lines_of}
use Rattle.nt_read.specs.Lines.{HasNoEnd, IsLineEnd, AreLines, last, more}
use Rattle.nt_read.specs.Pieces.{unfinished}
use Rattle.nt_read.proofs.Splits.{plain, from_other}

-- neither LF nor CR
abbrev IsNoEnd : ℕ → Type 0
IsNoEnd b = (b ≢ 10) × (b ≢ 13)

-- a byte that ends no line is neither LF nor CR
pub not_end : (b : ℕ) → IsNoEnd b → is_byte2 10 13 b ≡ true → ⊥
not_end b never h =
    elim (eqb_tells b 10) [
      | inl is ↦ never.0 is.1
      | inr lf ↦ elim (eqb_tells b 13) [
        | inl is ↦ never.1 is.1
        | inr cr ↦ let neither : is_byte2 10 13 b ≡ false = rw (lf.0, cr.0) refl in cc
      ]
    ]

-- a line before a line end
with_line : (line bytes : List ℕ) (lines : List (List ℕ)) → HasNoEnd line → lines_after false bytes ≡ [] ∷ lines → lines_after false (line ++ bytes) ≡ line ∷ lines
with_line [] bytes lines never e = e
with_line (b ∷ line) bytes lines never e =
    let later = with_line line bytes lines (λ k d below. never (suc k) d (omega arith)) e in
    rw (plain b (line ++ bytes) (not_end b (never 0 b (omega arith))), later) refl

-- where no LF is first, a CR before the bytes changes nothing
no_lf : (bytes : List ℕ) → ((rest : List ℕ) → bytes ≢ 10 ∷ rest) → lines_after true bytes ≡ lines_after false bytes
no_lf [] never = refl
no_lf (b ∷ bytes) never =
    elim (eqb_tells b 10) [
      | inl is ↦ absurd (never bytes (ap (λ c. c ∷ bytes) is.1))
      | inr other ↦ rw other.0 refl
    ]

-- a line end in front ends an empty line
after_end : (end after : List ℕ) → IsLineEnd end after → lines_after false (end ++ after) ≡ [] ∷ lines_after false after
after_end end after (inl lf) = rw lf refl
after_end end after (inr (inl cr_lf)) = rw cr_lf refl
after_end end after (inr (inr cr)) = rw cr.0 (ap (λ lines. [] ∷ lines) (no_lf after cr.1))

-- where the bytes are these lines, no others are
only : (bytes : List ℕ) (lines : List (List ℕ)) → AreLines bytes lines → lines ≡ lines_after false bytes
only bytes lines (last line never) = sym (rw append-nil at (with_line line [] [] never refl))
only bytes lines (more whole line end after others never ends is later) =
    rw (is, only after others later) (sym (with_line line (end ++ after) (lines_after false after) never (after_end end after ends)))

-- one byte more in the first line
longer_line : (b : ℕ) (bytes : List ℕ) (lines : List (List ℕ)) → IsNoEnd b → AreLines bytes lines → AreLines (b ∷ bytes) (before_first_line b lines)
longer_line b bytes lines never (last line rest) = last (b ∷ line) (All-cons IsNoEnd b line never rest)
longer_line b bytes lines never (more whole line end after others rest ends is later) =
    more (b ∷ whole) (b ∷ line) end after others (All-cons IsNoEnd b line never rest) ends (ap (λ xs. b ∷ xs) is) later

-- the lines of bytes after a CR, and the CR
abbrev AfterCr : List ℕ → Type 0
AfterCr bytes = AreLines (13 ∷ bytes) ([] ∷ lines_after true bytes)

-- one byte more that is no LF
other_more : (b : ℕ) (bytes : List ℕ) → b ≢ 10 → AreLines bytes (lines_after false bytes) → AfterCr bytes → AreLines (b ∷ bytes) (from_other b bytes)
other_more b bytes never plain_lines after =
    elim (b == 13) as (λ cr. (b == 13) ≡ cr → AreLines (b ∷ bytes) (if cr then [] ∷ lines_after true bytes else before_first_line b (lines_after false bytes))) [
      | true ↦ λ is. let P : ℕ → Type 0 = λ c. AreLines (c ∷ bytes) ([] ∷ lines_after true bytes) in subst P (sym (eqb-true b 13 is)) after
      | false ↦ λ is. longer_line b bytes (lines_after false bytes) (never, eqb-false b 13 is) plain_lines
    ] refl

-- one byte more where no CR is before
plain_more : (b : ℕ) (bytes : List ℕ) → AreLines bytes (lines_after false bytes) → AfterCr bytes → AreLines (b ∷ bytes) (lines_after false (b ∷ bytes))
plain_more b bytes plain_lines after =
    elim (b == 10) as (λ lf. (b == 10) ≡ lf → AreLines (b ∷ bytes) (if lf then [] ∷ lines_after false bytes else from_other b bytes)) [
      | true ↦ λ is. more (b ∷ bytes) [] (10 ∷ []) bytes (lines_after false bytes) (All-nil IsNoEnd) (inl refl) (ap (λ c. c ∷ bytes) (eqb-true b 10 is)) plain_lines
      | false ↦ λ is. other_more b bytes (eqb-false b 10 is) plain_lines after
    ] refl

-- one byte more after a CR
after_more : (b : ℕ) (bytes : List ℕ) → AreLines bytes (lines_after false bytes) → AreLines (b ∷ bytes) (lines_after false (b ∷ bytes)) → AfterCr (b ∷ bytes)
after_more b bytes plain_lines all =
    elim (b == 10) as (λ lf. (b == 10) ≡ lf → AreLines (b ∷ bytes) (if lf then [] ∷ lines_after false bytes else from_other b bytes) → AreLines (13 ∷ b ∷ bytes) ([] ∷ (if lf then lines_after false bytes else from_other b bytes))) [
      | true ↦ λ is _. more (13 ∷ b ∷ bytes) [] (13 ∷ 10 ∷ []) bytes (lines_after false bytes) (All-nil IsNoEnd) (inr (inl refl)) (ap (λ c. 13 ∷ c ∷ bytes) (eqb-true b 10 is)) plain_lines
      | false ↦ λ is all. more (13 ∷ b ∷ bytes) [] (13 ∷ []) (b ∷ bytes) (from_other b bytes) (All-nil IsNoEnd) (inr (inr (refl, λ rest e. eqb-false b 10 is (cc)))) refl all
    ] refl all

-- the lines that are read are the lines, after a CR and elsewhere
both : (bytes : List ℕ) → AreLines bytes (lines_after false bytes) × AfterCr bytes
both [] = (
  last [] (All-nil IsNoEnd),
  more (13 ∷ []) [] (13 ∷ []) [] ([] ∷ []) (All-nil IsNoEnd) (inr (inr (refl, λ rest e. cc))) refl (last [] (All-nil IsNoEnd)),
)
both (b ∷ bytes) =
    let later = both bytes in
    let all = plain_more b bytes later.0 later.1 in
    (all, after_more b bytes later.0 all)

-- bytes have a line
are_some : (bytes : List ℕ) (lines : List (List ℕ)) → AreLines bytes lines → lines ≢ []
are_some bytes lines (last line never) = λ e. absurd (cc)
are_some bytes lines (more whole line end after others never ends is later) = λ e. absurd (cc)

-- no line has a line end in it, and so the last one has none
last_has_no_end : (bytes : List ℕ) (lines : List (List ℕ)) → AreLines bytes lines → HasNoEnd (unfinished lines)
last_has_no_end bytes lines (last line never) = never
last_has_no_end bytes lines (more whole line end after (next ∷ others) never ends is later) = last_has_no_end after (next ∷ others) later
last_has_no_end bytes lines (more whole line end after [] never ends is later) = absurd (are_some after [] later refl)

-- the last of the lines that are read has no line end in it
pub unfinished-no_end : (bytes : List ℕ) → HasNoEnd (unfinished (lines_of bytes))
unfolding lines_of
unfinished-no_end bytes = last_has_no_end bytes (lines_after false bytes) ((both bytes).0)

-- the lines that are read are the lines, and no other list is
pub AreLines-lines_of : (bytes : List ℕ) (lines : List (List ℕ)) → AreLines bytes lines ↔ (lines ≡ lines_of bytes)
unfolding lines_of
AreLines-lines_of bytes lines = (
  only bytes lines,
  λ is. let P : List (List ℕ) → Type 0 = λ other. AreLines bytes other in subst P (sym is) ((both bytes).0),
)
