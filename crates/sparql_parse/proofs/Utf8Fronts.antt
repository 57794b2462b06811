-- Bytes that are not UTF-8 have a longest front that is.
use Rattle.std.proofs.Common.{◌≡◌, ℕ, zero, suc, ◌<◌, ◌≤◌, List, [], length, take, refl, sym, subst, ◌∙◌, arith, ⊎_elim, true≢false, take_all}
use Rattle.std.proofs.lemmas.Bool.{cases_Bool, cases_lt, cond-true, cond-false}
use Rattle.std.proofs.lemmas.Str.{IsUtf8-from_is_utf8, is_utf8-from_IsUtf8}
use Rattle.std.specs.Str.{IsUtf8, IsValidUpTo, is_utf8}
use Rattle.std.specs.Str.Lossy.{valid_len_up_to, utf8_valid_len}

abbrev IsLongest : List ℕ → ℕ → ℕ → Type 0
IsLongest bytes most n = IsUtf8 (take n bytes) × ((k : ℕ) → n < k → k ≤ most → ¬ IsUtf8 (take k bytes))

longest_front : (bytes : List ℕ) (most : ℕ) → IsLongest bytes most (valid_len_up_to bytes most)
longest_front bytes zero = (([], (refl, refl)), λ k above within. absurd (omega arith))
longest_front bytes (suc most) =
    let (front, longest) = longest_front bytes most in
    ⊎_elim
    (λ yes.
    let is : valid_len_up_to bytes (suc most) ≡ suc most = cond-true _ _ _ yes in
    subst (IsLongest bytes (suc most)) (sym is) (IsUtf8-from_is_utf8 _ yes, λ k above within. absurd (omega arith)))
    (λ no.
    let is : valid_len_up_to bytes (suc most) ≡ valid_len_up_to bytes most = cond-false _ _ _ no in
    subst (IsLongest bytes (suc most)) (sym is) (
      front,
      λ k above within utf8. ⊎_elim
          (λ (top : most < k).
          let same : k ≡ suc most = omega arith in
          true≢false (sym (is_utf8-from_IsUtf8 _ (subst (λ n. IsUtf8 (take n bytes)) same utf8)) ∙ no))
          (λ (low : k ≤ most). longest k above low utf8)
          (cases_lt most k),
    ))
    (cases_Bool (is_utf8 (take (suc most) bytes)))

pub bad-front : (bytes : List ℕ) → ¬ IsUtf8 bytes → IsValidUpTo bytes (utf8_valid_len bytes)
unfolding utf8_valid_len
bad-front bytes bad =
    let n = utf8_valid_len bytes in
    let (front, longest) = longest_front bytes (length bytes) in
    let short : n < length bytes = ⊎_elim
    (λ (is : n < length bytes). is)
    (λ (whole : length bytes ≤ n). absurd (bad (subst IsUtf8 (take_all n bytes whole) front)))
    (cases_lt n (length bytes)) in
    record {
      short = short;
      front = front;
      longest = λ m above utf8. ⊎_elim
          (λ (past : length bytes < m). bad (subst IsUtf8 (take_all m bytes (omega arith)) utf8))
          (λ (within : m ≤ length bytes). longest m above within utf8)
          (cases_lt (length bytes) m);
    }

pub not_whole : (bytes : List ℕ) (n : ℕ) → IsValidUpTo bytes n → ¬ IsUtf8 bytes
not_whole bytes n up utf8 = up.longest (length bytes) up.short (subst IsUtf8 (sym (take_all (length bytes) bytes (omega arith))) utf8)
