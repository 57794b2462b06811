-- Laws of tables of texts: a text more, and the text at a place.
use Rattle.std.proofs.Common.{◌≡◌, ℕ, zero, suc, ◌+◌, ◌-◌, ◌<◌, ◌≤◌, List, [], ◌∷◌, ◌++◌, Some, length, All, get_or, take, drop, sym, ap, ◌∙◌, subst, arith, length-append, append-nil, add-one}
use Rattle.std.proofs.Math.Seq.{take-append_seam, drop-append-add}
use Rattle.std.proofs.lemmas.List.Elements.{All-push, All-head, All-tail}
use Rattle.std.proofs.lemmas.Grind.{flat_map-append, get_or_default_zero}
use Rattle.std.specs.List.{slice_get}
use Rattle.bm_term.specs.Canonical.{IsCanonical}
use Rattle.byte_tables.specs.Pieces.{joined, ends_from, starts_of, pieces_at}
use Rattle.byte_tables.proofs.PieceLaws.{pieces_at-starts_of, length-starts_of}
use Rattle.term_numbers.specs.held.Table.{IsCut, IsTextTable}

-- one text more
ends_from-push : (from : ℕ) (ts : List (List ℕ)) (t : List ℕ) → ends_from from (ts ++ t ∷ []) ≡ ends_from from ts ++ (from + length (joined (ts ++ t ∷ []))) ∷ []
ends_from-push from [] t = ap (λ n. n ∷ []) (omega (arith, length-append t []))
ends_from-push from (u ∷ ts) t =
    let rest = ends_from-push (from + length u) ts t in
    let last : from + length u + length (joined (ts ++ t ∷ [])) ≡ from + length (u ++ joined (ts ++ t ∷ [])) = omega (arith, length-append u (joined (ts ++ t ∷ []))) in
    ap (λ (ns : List ℕ). (from + length u) ∷ ns) (rest ∙ ap (λ n. ends_from (from + length u) ts ++ n ∷ []) last)

joined-push : (ts : List (List ℕ)) (t : List ℕ) → joined (ts ++ t ∷ []) ≡ joined ts ++ t
joined-push ts t = flat_map-append (λ (u : List ℕ). u) ts (t ∷ []) ∙ ap (λ l. joined ts ++ l) (append-nil t)

pub record IsPushed (starts bytes t starts' bytes' : List ℕ) : Type 0 where
  pub texts : pieces_at starts' bytes' ≡ pieces_at starts bytes ++ t ∷ []
  pub table : IsTextTable starts' bytes'

pub IsTextTable-push : (starts bytes t starts' bytes' : List ℕ) → IsTextTable starts bytes → ∥ IsCanonical t ∥₁ → bytes' ≡ bytes ++ t → starts' ≡ starts ++ length bytes' ∷ [] → IsPushed starts bytes t starts' bytes'
IsTextTable-push starts bytes t starts' bytes' held canonical more pushed =
    let cut : IsCut starts bytes = held.cut in
    let ts : List (List ℕ) = pieces_at starts bytes in
    let new : List (List ℕ) = ts ++ t ∷ [] in
    let bytes_are : bytes' ≡ joined new = more ∙ ap (λ l. l ++ t) cut.bytes_are ∙ sym (joined-push ts t) in
    let starts_are : starts' ≡ starts_of new =
    pushed ∙ ap (λ l. l ++ length bytes' ∷ []) cut.starts_are ∙ ap (λ l. starts_of ts ++ length l ∷ []) bytes_are ∙ sym (ap (λ (ns : List ℕ). 0 ∷ ns) (ends_from-push 0 ts t ∙ ap (λ n. ends_from 0 ts ++ n ∷ []) (omega arith))) in
    let texts : pieces_at starts' bytes' ≡ new = (λ i. pieces_at (starts_are i) (bytes_are i)) ∙ pieces_at-starts_of new in
    record {
      texts = texts;
      table = record {
        cut = record { starts_are = starts_are ∙ ap starts_of (sym texts); bytes_are = bytes_are ∙ ap joined (sym texts) };
        canonical = subst (All (λ u. ∥ IsCanonical u ∥₁)) (sym texts) (All-push (λ u. ∥ IsCanonical u ∥₁) ts t held.canonical canonical);
      };
    }

-- the text at a place is between two starts
pub record IsBetween (low high : ℕ) (from last : ℕ) (bytes : List ℕ) (ts : List (List ℕ)) (i : ℕ) : Type 0 where
  pub after : from ≤ low
  pub up : low ≤ high
  pub within : high ≤ last
  pub text : slice_get ts i ≡ Some (take (high - low) (drop (low - from) bytes))

abbrev start_at : ℕ → List (List ℕ) → ℕ → ℕ
start_at from ts i = get_or (from ∷ ends_from from ts) i 0

between : (from : ℕ) (ts : List (List ℕ)) (i : ℕ) → i < length ts → IsBetween (start_at from ts i) (start_at from ts (suc i)) from (from + length (joined ts)) (joined ts) ts i
between from [] i low = absurd (omega arith)
between from (t ∷ ts) zero low = record {
  after = omega arith;
  up = omega arith;
  within = omega (arith, length-append t (joined ts));
  text =
      let gap : from + length t - from ≡ length t = omega arith in
      let none : from - from ≡ 0 = omega arith in
      ap Some (sym (rw gap (rw none (take-append_seam t (joined ts)))));
}
between from (t ∷ ts) (suc i) low =
    let rest = between (from + length t) ts i (omega arith) in
    let l : ℕ = start_at (from + length t) ts i in
    let gap : l - from ≡ length t + (l - (from + length t)) = omega (arith, rest.after) in
    record {
      after = omega (arith, rest.after);
      up = rest.up;
      within = omega (arith, rest.within, length-append t (joined ts));
      text = rest.text ∙ ap (λ b. Some (take (start_at (from + length t) ts (suc i) - l) b)) (sym (ap (λ n. drop n (t ++ joined ts)) gap ∙ drop-append-add t (joined ts) (l - (from + length t))));
    }

pub record IsText (starts bytes : List ℕ) (ts : List (List ℕ)) (i low high : ℕ) : Type 0 where
  pub up : low ≤ high
  pub within : high ≤ length bytes
  pub text : slice_get ts i ≡ Some (take (high - low) (drop low bytes))

pub length-starts : (starts bytes : List ℕ) (ts : List (List ℕ)) → IsCut starts bytes → pieces_at starts bytes ≡ ts → length starts ≡ length ts + 1
length-starts starts bytes ts cut are = ap length (cut.starts_are ∙ ap starts_of are) ∙ length-starts_of ts

pub text_between : (starts bytes : List ℕ) (ts : List (List ℕ)) (i low high : ℕ) → IsCut starts bytes → pieces_at starts bytes ≡ ts → i < length ts → low ≡ get_or starts i low → high ≡ get_or starts (i + 1) high
    → IsText starts bytes ts i low high
text_between starts bytes ts i low high cut are inside at_low at_high =
    let s : starts ≡ starts_of ts = cut.starts_are ∙ ap starts_of are in
    let b : bytes ≡ joined ts = cut.bytes_are ∙ ap joined are in
    let many = length-starts starts bytes ts cut are in
    let at = between 0 ts i inside in
    let l : low ≡ start_at 0 ts i = at_low ∙ get_or_default_zero starts i low (omega arith) ∙ ap (λ x. get_or x i 0) s in
    let h : high ≡ start_at 0 ts (suc i) = at_high ∙ get_or_default_zero starts (i + 1) high (omega arith) ∙ ap (λ n. get_or starts n 0) (add-one i) ∙ ap (λ x. get_or x (suc i) 0) s in
    let none : start_at 0 ts i - 0 ≡ low = omega arith in
    record {
      up = omega (arith, at.up);
      within = omega (arith, at.within, ap length b);
      text = at.text ∙ (λ j. Some (take (sym h j - sym l j) (drop (none j) (sym b j))));
    }

-- a text that a table has is canonical
pub canonical_at : (ts : List (List ℕ)) (i : ℕ) (t : List ℕ) → All (λ u. ∥ IsCanonical u ∥₁) ts → slice_get ts i ≡ Some t → ∥ IsCanonical t ∥₁
canonical_at [] i t all at = absurd (cc)
canonical_at (u ∷ ts) zero t all at = let same : u ≡ t = cc in subst (λ v. ∥ IsCanonical v ∥₁) same (All-head (λ v. ∥ IsCanonical v ∥₁) u ts all)
canonical_at (u ∷ ts) (suc i) t all at = canonical_at ts i t (All-tail (λ v. ∥ IsCanonical v ∥₁) u ts all) at
