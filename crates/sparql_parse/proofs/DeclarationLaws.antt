-- The IRI for which a prefix stands, by its last declaration, is what is read of the declarations one by one.
use Rattle.std.proofs.Common.{◌≡◌, ◌⊎◌, inl, inr, ℕ, true, false, cond, List, [], ◌∷◌, ◌++◌, fold, reverse, Option, Some, None, refl, sym, ap, subst, ◌∙◌, append_assoc, append-nil}
use Rattle.std.proofs.lemmas.List.{reverse-append}
use Rattle.std.proofs.lemmas.List.Folds.{find-append}
use Rattle.std.proofs.lemmas.Slice.Eq.{bytes_eq-Decides}
use Rattle.std.specs.List.{find}
use Rattle.std.specs.Option.{option_map, option_or, is_some}
use Rattle.query_tokens.specs.Token.{Lexeme}
use Rattle.query_tokens.specs.declared.token.TokenKind.TheVariants as kinds
use Rattle.query_grammar.specs.declared.syntax.Role.{Role}
use Rattle.query_grammar.specs.declared.syntax.Role.TheVariants as roles
use Rattle.query_grammar.specs.Roles.{Labelled, with_role}
use Rattle.query_values.specs.reading.Values.{IsSpelled, prefix_of, iri_of}
use Rattle.sparql_parse.specs.computed.Names.{Namespace, namespace_with, namespace_of, is_text}
use Rattle.sparql_parse.specs.computed.Names.{Declarations, with_namespace, declarations_after, no_declarations, declarations_of, namespaces_of}
use Rattle.query_values.specs.Iris.{SpellsIri, SpellsPrefix}
use Rattle.sparql_parse.specs.Declarations.{IsDeclared, StandsFor}
use Rattle.query_values.proofs.SpelledTokens.{SpellsIri-is, iri_of-spelled, SpellsPrefix-is, prefix_of-spelled}

-- a token is spelled, and where it is of a declaration it is a prefix or an IRI
pub record IsProper (l : Labelled) : Type 0 where
  pub spelled : IsSpelled l.token
  pub label : l.role ≡ roles.Declared → l.token.kind ≡ kinds.Prefix
  pub iri : l.role ≡ roles.Namespace → l.token.kind ≡ kinds.Iri

-- each of some tokens is so
abbrev pub AreProper : List Labelled → Type 0
AreProper [] = Unit {0}
AreProper (l ∷ ls) = IsProper l × AreProper ls

-- a front of such tokens
pub AreProper-front : (front back : List Labelled) → AreProper (front ++ back) → AreProper front
AreProper-front [] back all = tt
AreProper-front (l ∷ front) back (first, rest) = (first, AreProper-front front back rest)

-- a back of such tokens
pub AreProper-back : (front back : List Labelled) → AreProper (front ++ back) → AreProper back
AreProper-back [] back all = all
AreProper-back (l ∷ front) back (first, rest) = AreProper-back front back rest

-- the prefix that a token declares
abbrev label_of : Role → Lexeme → Option (List ℕ)
label_of roles.Declared token = Some (prefix_of token)
label_of _ token = None

-- what the IRI of a declaration adds, after this prefix
abbrev added : Option (List ℕ) → Lexeme → List Namespace
added None token = []
added (Some prefix) token = namespace_with prefix (iri_of token) ∷ []

-- the declaration that a token completes, after this prefix
abbrev entry : Option (List ℕ) → Role → Lexeme → List Namespace
entry prefix roles.Namespace token = added prefix token
entry prefix _ token = []

-- the declarations from the front on, after this prefix
abbrev declared_from : Option (List ℕ) → List Labelled → List Namespace
declared_from prefix [] = []
declared_from prefix (l ∷ ls) = entry prefix l.role l.token ++ declared_from (label_of l.role l.token) ls

-- what the IRI of a declaration adds comes at the end
with_namespace-added : (ns : List Namespace) (prefix : Option (List ℕ)) (token : Lexeme) → with_namespace ns prefix (iri_of token) ≡ ns ++ added prefix token
with_namespace-added ns None token = sym (append-nil ns)
with_namespace-added ns (Some prefix) token = refl

-- the declarations after one token more
after-namespaces : (d : Declarations) (role : Role) (token : Lexeme) → (declarations_after d role token).namespaces ≡ d.namespaces ++ entry d.prefix role token
after-namespaces d roles.Namespace token = with_namespace-added d.namespaces d.prefix token
after-namespaces d _ token = sym (append-nil d.namespaces)

-- the prefix that is read last, after one token more
after-prefix : (d : Declarations) (role : Role) (token : Lexeme) → (declarations_after d role token).prefix ≡ label_of role token
after-prefix d roles.Declared token = refl
after-prefix d roles.Namespace token = refl
after-prefix d _ token = refl

-- what is declared after some tokens more
abbrev after_all : Declarations → List Labelled → Declarations
after_all d ls = fold (λ e (l : Labelled). declarations_after e l.role l.token) d ls

-- the declarations after some tokens more are those from the front on
after_all-namespaces : (ls : List Labelled) (d : Declarations) → (after_all d ls).namespaces ≡ d.namespaces ++ declared_from d.prefix ls
after_all-namespaces [] d = sym (append-nil d.namespaces)
after_all-namespaces (l ∷ ls) d =
    let next = declarations_after d l.role l.token in
    let rest = declared_from (label_of l.role l.token) ls in
    after_all-namespaces ls next
    ∙ ap (λ ns. ns ++ declared_from next.prefix ls) (after-namespaces d l.role l.token)
    ∙ ap (λ p. (d.namespaces ++ entry d.prefix l.role l.token) ++ declared_from p ls) (after-prefix d l.role l.token)
    ∙ append_assoc d.namespaces (entry d.prefix l.role l.token) rest

-- the declarations among tokens, from the front on
namespaces_of-from : (ls : List Labelled) → namespaces_of ls ≡ declared_from None ls
unfolding declarations_of
namespaces_of-from ls = after_all-namespaces ls no_declarations

-- the last declaration of a prefix, in two elements
map-or : (a b : Option Namespace) → option_map (λ n. n.iri) (option_or a b) ≡ option_or (option_map (λ n. n.iri) a) (option_map (λ n. n.iri) b)
map-or None b = refl
map-or (Some n) b = refl

-- the last declaration of a prefix is in the second part, or else in the first
found-append : (xs ys : List Namespace) (prefix : List ℕ) → namespace_of (xs ++ ys) prefix ≡ option_or (namespace_of ys prefix) (namespace_of xs prefix)
found-append xs ys prefix =
    ap (λ ns. option_map (λ n. n.iri) (find (λ n. is_text prefix n.prefix) ns)) (reverse-append xs ys)
    ∙ ap (option_map (λ n. n.iri)) (find-append (λ n. is_text prefix n.prefix) (reverse ys) (reverse xs))
    ∙ map-or (find (λ n. is_text prefix n.prefix) (reverse ys)) (find (λ n. is_text prefix n.prefix) (reverse xs))

-- a declaration alone is found by its prefix
found-one : (prefix iri : List ℕ) → namespace_of (namespace_with prefix iri ∷ []) prefix ≡ Some iri
found-one prefix iri =
    ap (λ b. option_map (λ (n : Namespace). n.iri) (cond b (Some (namespace_with prefix iri)) None)) ((bytes_eq-Decides prefix prefix).1 refl)

-- of two there is one where there is the second
is_some-or : (a b : Option (List ℕ)) → is_some b ≡ true → is_some (option_or a b) ≡ true
is_some-or None b e = e
is_some-or (Some x) b e = refl

-- and where there is the first
is_some-or-first : (a b : Option (List ℕ)) → is_some a ≡ true → is_some (option_or a b) ≡ true
is_some-or-first None b e = absurd (cc)
is_some-or-first (Some x) b e = refl

-- a prefix that is declared is found
declared-found : (before after : List Labelled) (p : Option (List ℕ)) (label value : Lexeme) (prefix : List ℕ) → SpellsPrefix label prefix →
    is_some (namespace_of (declared_from p (before ++ with_role roles.Declared label ∷ with_role roles.Namespace value ∷ after)) prefix) ≡ true
declared-found [] after p label value prefix is =
    let n = namespace_with (prefix_of label) (iri_of value) in
    let one : namespace_of (n ∷ []) prefix ≡ Some (iri_of value) = subst (λ q. namespace_of (n ∷ []) q ≡ Some (iri_of value)) (SpellsPrefix-is label prefix is) (found-one (prefix_of label) (iri_of value)) in
    ap is_some (found-append (n ∷ []) (declared_from None after) prefix)
    ∙ is_some-or (namespace_of (declared_from None after) prefix) (namespace_of (n ∷ []) prefix) (ap is_some one)
declared-found (l ∷ before) after p label value prefix is =
    let rest = declared_from (label_of l.role l.token) (before ++ with_role roles.Declared label ∷ with_role roles.Namespace value ∷ after) in
    ap is_some (found-append (entry p l.role l.token) rest prefix)
    ∙ is_some-or-first (namespace_of rest prefix) (namespace_of (entry p l.role l.token) prefix) (declared-found before after (label_of l.role l.token) label value prefix is)

-- a prefix that is declared is found, whatever prefix comes before
IsDeclared-found : (ls : List Labelled) (p : Option (List ℕ)) (prefix : List ℕ) → IsDeclared ls prefix → is_some (namespace_of (declared_from p ls) prefix) ≡ true
IsDeclared-found ls p prefix (iri, d) =
    subst (λ xs. is_some (namespace_of (declared_from p xs) prefix) ≡ true) (sym d.split) (declared-found d.before d.after p d.label d.namespace prefix d.prefix_is)

-- a prefix that is not found is not declared
not-declared : (ls : List Labelled) (p : Option (List ℕ)) (prefix : List ℕ) → namespace_of (declared_from p ls) prefix ≡ None → ¬ IsDeclared ls prefix
not-declared ls p prefix none is =
    let found = IsDeclared-found ls p prefix is in
    let not_found : is_some (namespace_of (declared_from p ls) prefix) ≡ false = ap is_some none in
    cc

-- a declaration of which the prefix stands before the tokens, and no other comes after it
record IsPending (p : Option (List ℕ)) (ls : List Labelled) (prefix iri : List ℕ) : Type 0 where
  prefix_is : p ≡ Some prefix
  value : Lexeme
  after : List Labelled
  split : ls ≡ with_role roles.Namespace value ∷ after
  iri_is : SpellsIri value iri
  last : ¬ IsDeclared after prefix

-- what a prefix stands for stays with one token more in front
StandsFor-more : (l : Labelled) (ls : List Labelled) (prefix iri : List ℕ) → StandsFor ls prefix iri → StandsFor (l ∷ ls) prefix iri
StandsFor-more l ls prefix iri s =
    let d = s.declaration in
    record {
      declaration = record { before = l ∷ d.before; label = d.label; namespace = d.namespace; after = d.after; split = ap (λ xs. l ∷ xs) d.split; prefix_is = d.prefix_is; iri_is = d.iri_is };
      last = s.last;
    }

-- the role and the prefix of a token that declares one
label-role : (role : Role) (token : Lexeme) (prefix : List ℕ) → label_of role token ≡ Some prefix → (role ≡ roles.Declared) × (prefix_of token ≡ prefix)
label-role roles.Declared token prefix e = (refl, cc)
label-role _ token prefix e = absurd (cc)

-- a token that declares a prefix makes a declaration of the IRI after it
pending-stands : (l : Labelled) (ls : List Labelled) (prefix iri : List ℕ) → IsProper l → IsPending (label_of l.role l.token) ls prefix iri → StandsFor (l ∷ ls) prefix iri
pending-stands l ls prefix iri proper pending =
    let (role, same) = label-role l.role l.token prefix pending.prefix_is in
    let first : l ≡ with_role roles.Declared l.token = ap (λ r. with_role r l.token) role in
    record {
      declaration = record {
        before = [];
        label = l.token;
        namespace = pending.value;
        after = pending.after;
        split = ap (λ x. x ∷ ls) first ∙ ap (λ xs. with_role roles.Declared l.token ∷ xs) pending.split;
        prefix_is = subst (SpellsPrefix l.token) same (prefix_of-spelled l.token proper.spelled (proper.label role));
        iri_is = pending.iri_is;
      };
      last = pending.last;
    }

-- what one token adds
entry-found : (p : Option (List ℕ)) (role : Role) (token : Lexeme) (prefix iri : List ℕ) → namespace_of (entry p role token) prefix ≡ Some iri →
    (role ≡ roles.Namespace) × (p ≡ Some prefix) × (iri_of token ≡ iri)
entry-found None roles.Namespace token prefix iri e = absurd (cc)
entry-found (Some q) roles.Namespace token prefix iri e =
    elim (is_text prefix q) as (λ b. is_text prefix q ≡ b → option_map (λ (n : Namespace). n.iri) (cond b (Some (namespace_with q (iri_of token))) None) ≡ Some iri → (roles.Namespace ≡ roles.Namespace) × (Some q ≡ Some prefix) × (iri_of token ≡ iri)) [
      | true ↦ λ t found. (refl, ap Some ((bytes_eq-Decides q prefix).0 t), cc)
      | false ↦ λ t found. absurd (cc)
    ] refl e
entry-found p _ token prefix iri e = absurd (cc)

-- an IRI is found of a declaration that has begun before, or of one among the tokens
abbrev Found : Option (List ℕ) → List Labelled → List ℕ → List ℕ → Type 0
Found p ls prefix iri = IsPending p ls prefix iri ⊎ StandsFor ls prefix iri

-- an IRI that is found after the first token
found-rest : (p : Option (List ℕ)) (l : Labelled) (ls : List Labelled) (prefix iri : List ℕ) → IsProper l → Found (label_of l.role l.token) ls prefix iri → Found p (l ∷ ls) prefix iri
found-rest p l ls prefix iri proper (inl pending) = inr (pending-stands l ls prefix iri proper pending)
found-rest p l ls prefix iri proper (inr stands) = inr (StandsFor-more l ls prefix iri stands)

-- an IRI that the first token completes
found-here : (p : Option (List ℕ)) (l : Labelled) (ls : List Labelled) (prefix iri : List ℕ) → IsProper l → ¬ IsDeclared ls prefix → namespace_of (entry p l.role l.token) prefix ≡ Some iri → Found p (l ∷ ls) prefix iri
found-here p l ls prefix iri proper last e =
    let (role, prefix_is, same) = entry-found p l.role l.token prefix iri e in
    let first : l ≡ with_role roles.Namespace l.token = ap (λ r. with_role r l.token) role in
    inl (record {
      prefix_is = prefix_is;
      value = l.token;
      after = ls;
      split = ap (λ x. x ∷ ls) first;
      iri_is = subst (SpellsIri l.token) same (iri_of-spelled l.token proper.spelled (proper.iri role));
      last = last;
    })

-- an IRI that is found has a declaration
namespace-found : (ls : List Labelled) (p : Option (List ℕ)) (prefix iri : List ℕ) → AreProper ls → namespace_of (declared_from p ls) prefix ≡ Some iri → Found p ls prefix iri
namespace-found [] p prefix iri all e = absurd (cc)
namespace-found (l ∷ ls) p prefix iri (first, others) e =
    let rest = declared_from (label_of l.role l.token) ls in
    let both : option_or (namespace_of rest prefix) (namespace_of (entry p l.role l.token) prefix) ≡ Some iri = sym (found-append (entry p l.role l.token) rest prefix) ∙ e in
    elim (namespace_of rest prefix) as (λ o. namespace_of rest prefix ≡ o → option_or o (namespace_of (entry p l.role l.token) prefix) ≡ Some iri → Found p (l ∷ ls) prefix iri) [
      | Some other ↦ λ is is_iri. found-rest p l ls prefix iri first (namespace-found ls (label_of l.role l.token) prefix iri others (is ∙ is_iri))
      | None ↦ λ is is_iri. found-here p l ls prefix iri first (not-declared ls (label_of l.role l.token) prefix is) is_iri
    ] refl both

-- where no declaration has begun before, it is one among the tokens
found-stands : (ls : List Labelled) (prefix iri : List ℕ) → Found None ls prefix iri → StandsFor ls prefix iri
found-stands ls prefix iri (inl pending) = let e = pending.prefix_is in absurd (cc)
found-stands ls prefix iri (inr stands) = stands

-- an IRI that is found is that for which the prefix stands
pub namespace_of-stands : (ls : List Labelled) (prefix iri : List ℕ) → AreProper ls → namespace_of (namespaces_of ls) prefix ≡ Some iri → StandsFor ls prefix iri
namespace_of-stands ls prefix iri all e =
    found-stands ls prefix iri (namespace-found ls None prefix iri all (sym (ap (λ ns. namespace_of ns prefix) (namespaces_of-from ls)) ∙ e))

-- where none is found the prefix is not declared
pub namespace_of-none : (ls : List Labelled) (prefix : List ℕ) → namespace_of (namespaces_of ls) prefix ≡ None → ¬ IsDeclared ls prefix
namespace_of-none ls prefix e = not-declared ls None prefix (sym (ap (λ ns. namespace_of ns prefix) (namespaces_of-from ls)) ∙ e)

-- nothing is found of a prefix that is not declared
none-found : (ls : List Labelled) (prefix : List ℕ) → AreProper ls → ¬ IsDeclared ls prefix → (found : Option (List ℕ)) → namespace_of (declared_from None ls) prefix ≡ found → namespace_of (declared_from None ls) prefix ≡ None
none-found ls prefix all not None is = is
none-found ls prefix all not (Some iri) is = let stands = found-stands ls prefix iri (namespace-found ls None prefix iri all is) in absurd (not (iri, stands.declaration))

-- of a prefix that is not declared nothing is found
pub not-declared-none : (ls : List Labelled) (prefix : List ℕ) → AreProper ls → ¬ IsDeclared ls prefix → namespace_of (namespaces_of ls) prefix ≡ None
not-declared-none ls prefix all not = ap (λ ns. namespace_of ns prefix) (namespaces_of-from ls) ∙ none-found ls prefix all not (namespace_of (declared_from None ls) prefix) refl

-- the last declaration is found
last-found : (before after : List Labelled) (p : Option (List ℕ)) (label value : Lexeme) (prefix iri : List ℕ) → AreProper after → SpellsPrefix label prefix → SpellsIri value iri → ¬ IsDeclared after prefix →
    namespace_of (declared_from p (before ++ with_role roles.Declared label ∷ with_role roles.Namespace value ∷ after)) prefix ≡ Some iri
last-found [] after p label value prefix iri all is is_iri last =
    let n = namespace_with (prefix_of label) (iri_of value) in
    let one : namespace_of (n ∷ []) prefix ≡ Some (iri_of value) = subst (λ q. namespace_of (n ∷ []) q ≡ Some (iri_of value)) (SpellsPrefix-is label prefix is) (found-one (prefix_of label) (iri_of value)) in
    found-append (n ∷ []) (declared_from None after) prefix
    ∙ ap (λ o. option_or o (namespace_of (n ∷ []) prefix)) (none-found after prefix all last (namespace_of (declared_from None after) prefix) refl)
    ∙ one ∙ ap Some (SpellsIri-is value iri is_iri)
last-found (l ∷ before) after p label value prefix iri all is is_iri last =
    let rest = declared_from (label_of l.role l.token) (before ++ with_role roles.Declared label ∷ with_role roles.Namespace value ∷ after) in
    found-append (entry p l.role l.token) rest prefix
    ∙ ap (λ o. option_or o (namespace_of (entry p l.role l.token) prefix)) (last-found before after (label_of l.role l.token) label value prefix iri all is is_iri last)

-- the IRI for which a prefix stands is found
pub StandsFor-found : (ls : List Labelled) (prefix iri : List ℕ) → AreProper ls → StandsFor ls prefix iri → namespace_of (namespaces_of ls) prefix ≡ Some iri
StandsFor-found ls prefix iri all s =
    let d = s.declaration in
    let split : List Labelled = with_role roles.Declared d.label ∷ with_role roles.Namespace d.namespace ∷ d.after in
    let (first, (second, proper)) = AreProper-back d.before split (subst AreProper d.split all) in
    ap (λ ns. namespace_of ns prefix) (namespaces_of-from ls)
    ∙ ap (λ xs. namespace_of (declared_from None xs) prefix) d.split
    ∙ last-found d.before d.after None d.label d.namespace prefix iri proper d.prefix_is d.iri_is s.last
