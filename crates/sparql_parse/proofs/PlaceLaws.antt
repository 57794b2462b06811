-- The IRIs that tokens of any spelling stand for.
use Rattle.std.proofs.Common.{◌≡◌, ◌≢◌, ℕ, Result, Ok, Err, List, refl, sym, ◌∙◌, subst}
use Rattle.std.specs.Prelude.{IfOk}
use Rattle.std.proofs.lemmas.List.Folds.{list_all-append}
use Rattle.std.specs.Cmp.Derive.{both_true}
use Rattle.rdf_text.specs.Classes.{is_irichar}
use Rattle.query_tokens.specs.Token.{Lexeme}
use Rattle.query_tokens.specs.declared.token.TokenKind.{TokenKind}
use Rattle.query_tokens.specs.declared.token.TokenKind.TheVariants as kinds
use Rattle.query_values.specs.reading.Values.{AreIriChars, IsSpelled, iri_of, local_of, prefixed_iri}
use Rattle.sparql_parse.specs.computed.Meaning.{Scope, iri_of_kind, iri_in}
use Rattle.query_values.proofs.SpelledValues.{local_of-irichars}

pub ok_irichars : {A E : Type 0} (f : A → List ℕ) (result : Result A E) (is : List ℕ) → AreIriChars is → IfOk result (λ a. f a ≡ is) → IfOk result (λ a. AreIriChars (f a))
ok_irichars f (Ok a) is characters same = subst AreIriChars (sym same) characters
ok_irichars f (Err e) is characters same = tt

pub ok_same : {A E : Type 0} (f : A → List ℕ) (result : Result A E) (is other : List ℕ) → is ≡ other → IfOk result (λ a. f a ≡ is) → IfOk result (λ a. f a ≡ other)
ok_same f (Ok a) is other e same = same ∙ e
ok_same f (Err x) is other e same = tt

-- an IRI in brackets has no prefix
iri_of_kind-other : (scope : Scope) (token : Lexeme) (kind : TokenKind) → kind ≢ kinds.Prefix → kind ≢ kinds.Prefixed → iri_of_kind scope kind token ≡ iri_of token
iri_of_kind-other scope token kinds.Prefix p q = absurd (p refl)
iri_of_kind-other scope token kinds.Prefixed p q = absurd (q refl)
iri_of_kind-other scope token _ p q = refl

pub iri_in-other : (scope : Scope) (token : Lexeme) → token.kind ≢ kinds.Prefix → token.kind ≢ kinds.Prefixed → iri_of token ≡ iri_in scope token
iri_in-other scope token p q = sym (iri_of_kind-other scope token token.kind p q)

pub prefixed-irichars : (namespace : List ℕ) (token : Lexeme) → AreIriChars namespace → IsSpelled token → token.kind ≡ kinds.Prefixed → AreIriChars (prefixed_iri namespace token)
prefixed-irichars namespace token front spelled kind =
    list_all-append is_irichar namespace (local_of token) ∙ both_true front (local_of-irichars token spelled kind)
