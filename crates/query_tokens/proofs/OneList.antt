-- The tokens of a source exist, and are one list.
use Rattle.std.proofs.Common.{◌≡◌, ℕ, zero, suc, ◌+◌, ◌<◌, ◌≤◌, ◌⊎◌, inl, inr, List, [], ◌∷◌, ◌++◌, length, refl, ap, ◌∙◌, sym, subst, arith, append-nil, length-append}
use Rattle.std.proofs.lemmas.Option.{same_Some}
use Rattle.std.specs.Str.{encode_utf8_all}
use Rattle.rdf_text.specs.Text.{IsLongest}
use Rattle.query_tokens.specs.declared.token.TokenKind.{TokenKind}
use Rattle.query_tokens.specs.Token.{IsToken, IsOfSomeRule, Lexeme}
use Rattle.query_tokens.specs.Blanks.{AreBlanks}
use Rattle.query_tokens.specs.scanning.Blanks.{after_blanks}
use Rattle.query_tokens.specs.Tokens.{BeginsWithToken, IsNextToken, AreTokensFrom}
use Rattle.query_tokens.specs.scanning.ScannedToken.{ScannedToken}
use Rattle.query_tokens.specs.scanning.Tokens.{scan_or_bad}
use Rattle.query_tokens.proofs.Walks.{goes_on}
use Rattle.query_tokens.proofs.BlankRuns.{blanks-split}
use Rattle.query_tokens.proofs.TokenReaches.{scan_token-reaches}
use Rattle.query_tokens.proofs.TokenLists.{length-token, scan_or_bad-stands, blanks_longest}

-- a text is of one kind: of the one that is read
pub one_kind : (kind other : TokenKind) (text : List ℕ) → IsToken kind text → IsToken other text → kind ≡ other
one_kind kind other text is is_other =
    let first = scan_token-reaches kind text [] is in
    let second = scan_token-reaches other text [] is_other in
    let same : first.found ≡ second.found = same_Some first.found second.found (sym first.read_is ∙ second.read_is) in
    sym (first.same (omega (arith, first.least))) ∙ ap (λ (found : ScannedToken). found.0) same ∙ second.same (omega (arith, second.least))

-- of a text one front is the longest
one_longest : (Rule : List ℕ → Type 0) (a x b y : List ℕ) → IsLongest Rule a x → IsLongest Rule b y → a ++ x ≡ b ++ y → (a ≡ b) × (x ≡ y)
one_longest Rule a x b y first second whole =
    elim (goes_on a x b y whole) [
      | inl (more, b_is, x_is) ↦
          let none = first.longest more y x_is (subst Rule b_is second.is) in
          (sym (b_is ∙ ap (λ xs. a ++ xs) none ∙ append-nil a), x_is ∙ ap (λ xs. xs ++ y) none)
      | inr (more, a_is, y_is) ↦
          let none = second.longest more x y_is (subst Rule a_is first.is) in
          (a_is ∙ ap (λ xs. b ++ xs) none ∙ append-nil b, sym (y_is ∙ ap (λ xs. xs ++ x) none))
    ]

-- tokens are the same where their parts are
same_lexeme : (token other : Lexeme) → token.kind ≡ other.kind → token.text ≡ other.text → token.at ≡ other.at → token ≡ other
same_lexeme token other kind text at =
    ap (λ k. record { kind = k; text = token.text; at = token.at }) kind
    ∙ ap (λ bytes. record { kind = other.kind; text = bytes; at = token.at }) text
    ∙ ap (λ n. record { kind = other.kind; text = other.text; at = n }) at

-- a token and what follows it, as one
abbrev SameToken : Lexeme → List ℕ → Lexeme → List ℕ → Type 0
SameToken token after other after_other = (token ≡ other) × (after ≡ after_other)

-- a text begins with one token
same_parts : (at : ℕ) (whole : List ℕ) (token other : Lexeme) (after after_other : List ℕ) (begins : BeginsWithToken at whole token after) (begins_other : BeginsWithToken at whole other after_other)
    → token.kind ≡ other.kind → begins.text ≡ begins_other.text → after ≡ after_other → SameToken token after other after_other
same_parts at whole token other after after_other begins begins_other kind text same = (
  same_lexeme token other kind (begins.bytes ∙ ap encode_utf8_all text ∙ sym begins_other.bytes) (begins.place ∙ sym begins_other.place),
  same,
)

-- so the token and what follows it are one
one_token : (at : ℕ) (whole : List ℕ) (token other : Lexeme) (after after_other : List ℕ) → BeginsWithToken at whole token after → BeginsWithToken at whole other after_other → SameToken token after other after_other
one_token at whole token other after after_other begins begins_other =
    let split : begins.text ++ after ≡ begins_other.text ++ after_other = sym begins.split ∙ begins_other.split in
    elim begins.token_is [
      | inl is ↦ elim begins_other.token_is [
        | inl is_other ↦
            let (text, same) = one_longest IsOfSomeRule begins.text after begins_other.text after_other is.longest is_other.longest split in
            let kind = one_kind token.kind other.kind begins_other.text (subst (IsToken token.kind) text is.is) is_other.is in
            same_parts at whole token other after after_other begins begins_other kind text same
        | inr bad ↦ absurd (bad.no_token begins.text after (token.kind, is.is) (sym (append-nil begins_other.text) ∙ ap (λ xs. begins_other.text ++ xs) (sym bad.last) ∙ sym split))
      ]
      | inr bad ↦ elim begins_other.token_is [
        | inl is_other ↦ absurd (bad.no_token begins_other.text after_other (other.kind, is_other.is) (sym (append-nil begins.text) ∙ ap (λ xs. begins.text ++ xs) (sym bad.last) ∙ split))
        | inr bad_other ↦
            let same : after ≡ after_other = bad.last ∙ sym bad_other.last in
            let text : begins.text ≡ begins_other.text =
            sym (append-nil begins.text) ∙ ap (λ xs. begins.text ++ xs) (sym bad.last) ∙ split ∙ ap (λ xs. begins_other.text ++ xs) bad_other.last ∙ append-nil begins_other.text in
            same_parts at whole token other after after_other begins begins_other (bad.kind_is ∙ sym bad_other.kind_is) text same
      ]
    ]

-- so after blanks
next_one : (at : ℕ) (whole : List ℕ) (token other : Lexeme) (after after_other : List ℕ) → IsNextToken at whole token after → IsNextToken at whole other after_other → SameToken token after other after_other
next_one at whole token other after after_other next next_other =
    let (blanks, rest) = one_longest AreBlanks next.blanks next.rest next_other.blanks next_other.rest next.dropped next_other.dropped (sym next.split ∙ next_other.split) in
    let begins : BeginsWithToken (at + length (encode_utf8_all next_other.blanks)) next_other.rest token after =
    subst (λ xs. BeginsWithToken (at + length (encode_utf8_all xs)) next_other.rest token after) blanks
    (subst (λ xs. BeginsWithToken (at + length (encode_utf8_all next.blanks)) xs token after) rest next.token_stands) in
    one_token (at + length (encode_utf8_all next_other.blanks)) next_other.rest token other after after_other begins next_other.token_stands

-- a token has text
begins_long : (at : ℕ) (whole : List ℕ) (token : Lexeme) (after : List ℕ) → BeginsWithToken at whole token after → 0 < length whole
begins_long at whole token after begins =
    let long : 0 < length begins.text = elim begins.token_is [ inl is ↦ length-token token.kind begins.text is.is | inr bad ↦ bad.some_text ] in
    omega (arith, ap length begins.split, length-append begins.text after)

-- where all is blank there is no token
no_next : (at : ℕ) (whole : List ℕ) (token : Lexeme) (after : List ℕ) → AreBlanks whole → IsNextToken at whole token after → ⊥
no_next at whole token after blank next =
    let none = next.dropped.longest next.rest [] (sym (append-nil next.rest)) (subst AreBlanks next.split blank) in
    let long = begins_long (at + length (encode_utf8_all next.blanks)) next.rest token after next.token_stands in
    omega (arith, ap length none)

-- so a source has one list of tokens
pub one_list : (tokens others : List Lexeme) (at : ℕ) (whole : List ℕ) → AreTokensFrom at whole tokens → AreTokensFrom at whole others → tokens ≡ others
one_list [] [] at whole are are_others = refl
one_list [] (other ∷ others) at whole blank (after, next, rest) = absurd (no_next at whole other after blank next)
one_list (token ∷ tokens) [] at whole (after, next, rest) blank = absurd (no_next at whole token after blank next)
one_list (token ∷ tokens) (other ∷ others) at whole (after, next, rest) (after_other, next_other, rest_other) =
    let (same, same_after) = next_one at whole token other after after_other next next_other in
    let moved : AreTokensFrom (other.at + length other.text) after_other tokens =
    subst (λ (t : Lexeme). AreTokensFrom (t.at + length t.text) after_other tokens) same
    (subst (λ xs. AreTokensFrom (token.at + length token.text) xs tokens) same_after rest) in
    ap (λ t. t ∷ tokens) same ∙ ap (λ ts. other ∷ ts) (one_list tokens others (other.at + length other.text) after_other moved rest_other)

-- What follows the blanks is a token, or all of it is bad, and so on to the end.
abbrev SomeTokens : ℕ → List ℕ → Type 0
SomeTokens at whole = (tokens : List Lexeme) × AreTokensFrom at whole tokens

-- the text begins with a token, after blanks
abbrev SomeNext : ℕ → List ℕ → Type 0
SomeNext at whole = (token : Lexeme) × (after : List ℕ) × IsNextToken at whole token after × (length after < length whole)

-- what is not blank begins with a token
some_next : (at : ℕ) (whole front : List ℕ) → AreBlanks front → whole ≡ front ++ after_blanks whole → 0 < length (after_blanks whole) → SomeNext at whole
some_next at whole front are split long =
    let rest = after_blanks whole in
    let found = scan_or_bad rest in
    let stands = scan_or_bad-stands rest long in
    let place = at + length (encode_utf8_all front) in
    let begins : BeginsWithToken place rest record { kind = found.0; text = encode_utf8_all stands.text; at = place } found.1 =
    record { text = stands.text; split = stands.split; token_is = stands.token_is; bytes = refl; place = refl } in (
      record { kind = found.0; text = encode_utf8_all stands.text; at = place },
      found.1,
      record { blanks = front; rest = rest; split = split; dropped = blanks_longest whole front are split; token_stands = begins },
      omega (arith, ap length split, length-append front rest, ap length stands.split, length-append stands.text found.1, stands.some_text),
    )

-- a text is blank or begins with a token
ends_or_goes : (at : ℕ) (whole : List ℕ) → AreBlanks whole ⊎ SomeNext at whole
ends_or_goes at whole =
    let (front, are, split) = blanks-split whole in
    elim (after_blanks whole) as (λ r. after_blanks whole ≡ r → AreBlanks whole ⊎ SomeNext at whole) [
      | [] ↦ λ e. inl (subst AreBlanks (sym (split ∙ ap (λ xs. front ++ xs) e ∙ append-nil front)) are)
      | c ∷ cs ↦ λ e. inr (some_next at whole front are split (omega (arith, ap length e)))
    ] refl

-- each text has tokens
pub some_list : (n at : ℕ) (whole : List ℕ) → length whole ≤ n → SomeTokens at whole
some_list zero at whole small = elim (ends_or_goes at whole) [
  | inl blank ↦ ([], blank)
  | inr (token, after, next, shorter) ↦ absurd (omega arith)
]
some_list (suc n) at whole small = elim (ends_or_goes at whole) [
  | inl blank ↦ ([], blank)
  | inr (token, after, next, shorter) ↦
      let (tokens, rest) = some_list n (token.at + length token.text) after (omega arith) in
      (token ∷ tokens, (after, next, rest))
]
