-- The tokens that are read of a source are its tokens.
use Rattle.std.proofs.Common.{◌≡◌, ℕ, zero, suc, ◌+◌, ◌<◌, ◌≤◌, if◌then◌else◌, List, [], ◌∷◌, ◌++◌, length, refl, ap, ◌∙◌, sym, subst, arith, append-nil, length-append}
use Rattle.std.specs.Str.{chars, encode_utf8_all}
use Rattle.rdf_text.specs.scanning.Text.{before}
use Rattle.rdf_text.proofs.TextLemmas.{before-append}
use Rattle.query_tokens.specs.Token.{Lexeme}
use Rattle.query_tokens.specs.Blanks.{AreBlanks}
use Rattle.query_tokens.specs.scanning.Blanks.{after_blanks}
use Rattle.query_tokens.specs.Tokens.{BeginsWithToken, IsNextToken, AreTokensFrom, AreTokens}
use Rattle.query_tokens.specs.scanning.Tokens.{scan_or_bad}
use Rattle.query_tokens.proofs.BlankRuns.{blanks-split}
use Rattle.query_tokens.proofs.TokenLists.{scan_or_bad-stands, blanks_longest}
use Rattle.query_tokens.proofs.OneList.{one_list}
use Rattle.sparql_parse.specs.computed.Reading.{is_nothing, token_before, tokens_from, tokens_read}

abbrev token_at : ℕ → List ℕ → Lexeme
token_at at whole = token_before (at + length (encode_utf8_all (before whole (after_blanks whole)))) (after_blanks whole) (scan_or_bad (after_blanks whole))

abbrev after : List ℕ → List ℕ
after whole = (scan_or_bad (after_blanks whole)).1

record Next (at : ℕ) (whole : List ℕ) : Type 0 where
  next : IsNextToken at whole (token_at at whole) (after whole)
  shorter : length (after whole) < length whole

next_stands : (at : ℕ) (whole : List ℕ) → 0 < length (after_blanks whole) → Next at whole
next_stands at whole long =
    let (front, are, split) = blanks-split whole in
    let rest = after_blanks whole in
    let found = scan_or_bad rest in
    let stands = scan_or_bad-stands rest long in
    let front_is : before whole rest ≡ front = ap (λ w. before w rest) split ∙ before-append front rest in
    let text_is : before rest found.1 ≡ stands.text = ap (λ w. before w found.1) stands.split ∙ before-append stands.text found.1 in
    let begins : BeginsWithToken (at + length (encode_utf8_all front)) rest (token_at at whole) found.1 =
    record {
      text = stands.text;
      split = stands.split;
      token_is = stands.token_is;
      bytes = ap encode_utf8_all text_is;
      place = ap (λ f. at + length (encode_utf8_all f)) front_is;
    } in
    record {
      next = record { blanks = front; rest = rest; split = split; dropped = blanks_longest whole front are split; token_stands = begins };
      shorter = omega (arith, ap length split, length-append front rest, ap length stands.split, length-append stands.text found.1, stands.some_text);
    }

tokens_more : (n at : ℕ) (whole : List ℕ) → tokens_from (suc n) at whole ≡ (if is_nothing (after_blanks whole) then [] else token_at at whole ∷ tokens_from n ((token_at at whole).at + length (token_at at whole).text) (after whole))
unfolding tokens_from
tokens_more n at whole = refl

tokens_none : (at : ℕ) (whole : List ℕ) → tokens_from zero at whole ≡ []
unfolding tokens_from
tokens_none at whole = refl

blank-all : (whole : List ℕ) → after_blanks whole ≡ [] → AreBlanks whole
blank-all whole e = let (front, are, split) = blanks-split whole in subst AreBlanks (sym (split ∙ ap (λ xs. front ++ xs) e ∙ append-nil front)) are

short-blanks : (whole : List ℕ) → length whole ≤ 0 → after_blanks whole ≡ []
short-blanks whole small =
    let (front, are, split) = blanks-split whole in
    elim (after_blanks whole) as (λ r. after_blanks whole ≡ r → r ≡ []) [
      | [] ↦ λ e. refl
      | c ∷ cs ↦ λ e. absurd (omega (arith, ap length split, length-append front (after_blanks whole), ap length e))
    ] refl

pub tokens_from-are : (n at : ℕ) (whole : List ℕ) → length whole ≤ n → AreTokensFrom at whole (tokens_from n at whole)
tokens_from-are zero at whole small = subst (AreTokensFrom at whole) (sym (tokens_none at whole)) (blank-all whole (short-blanks whole small))
tokens_from-are (suc n) at whole small =
    subst (AreTokensFrom at whole) (sym (tokens_more n at whole))
    (elim (after_blanks whole) as (λ r. after_blanks whole ≡ r → AreTokensFrom at whole (if is_nothing r then [] else token_at at whole ∷ tokens_from n ((token_at at whole).at + length (token_at at whole).text) (after whole))) [
      | [] ↦ λ e. blank-all whole e
      | c ∷ cs ↦ λ e.
          let long : 0 < length (after_blanks whole) = omega (arith, ap length e) in
          let stands = next_stands at whole long in
          (after whole, stands.next, tokens_from-are n ((token_at at whole).at + length (token_at at whole).text) (after whole) (omega (arith, stands.shorter)))
    ] refl)

-- the tokens of a source are those that are read
pub tokens_read-are : (source : List ℕ) → AreTokens source (tokens_read source)
unfolding tokens_read
tokens_read-are source = tokens_from-are (length (chars source)) 0 (chars source) (omega arith)

pub tokens_read-is : (source : List ℕ) (tokens : List Lexeme) → AreTokens source tokens → tokens_read source ≡ tokens
tokens_read-is source tokens are = one_list (tokens_read source) tokens 0 (chars source) (tokens_read-are source) are
