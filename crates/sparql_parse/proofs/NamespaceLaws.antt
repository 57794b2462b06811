-- Look-ups of prefixes, in characters and in bytes.
use Rattle.std.proofs.Common.{◌≡◌, ℕ, Bool, true, false, ◌==◌, cond, List, [], ◌∷◌, ◌++◌, map, reverse, Option, Some, refl, ap, subst, ◌∙◌, sym, arith}
use Rattle.std.proofs.lemmas.List.{reverse-append, map-append}
use Rattle.std.proofs.lemmas.List.Elements.{All-append, All-cons, All-nil, All-tail}
use Rattle.std.proofs.lemmas.Str.{encodes-chars}
use Rattle.std.proofs.lemmas.Bool.Decides.{same_from_decides}
use Rattle.std.proofs.lemmas.Slice.Eq.{bytes_eq-Decides}
use Rattle.std.specs.Cmp.Lexicographic.{pointwise}
use Rattle.std.specs.List.{All, find}
use Rattle.std.specs.Option.{option_map, IfSome}
use Rattle.std.specs.Str.{bytes_eq, chars, IsUtf8, encode_utf8_all}
use Rattle.std.specs.Prelude.{string_bytes}
use Rattle.sparql_parse.specs.computed.Names.{is_text, namespace_of}
use Rattle.sparql_parse.specs.held.Namespaces.{declared, IsNamespace}
use Rattle.sparql_parse.specs.declared.namespaces.Namespace.{Namespace}

-- texts are the same where their characters are
pub same_chars : (a b : List ℕ) → IsUtf8 a → IsUtf8 b → bytes_eq a b ≡ bytes_eq (chars a) (chars b)
same_chars a b a_utf8 b_utf8 =
    same_from_decides (bytes_eq a b) (bytes_eq (chars a) (chars b))
    (bytes_eq-Decides a b) (
      λ e. let same = (bytes_eq-Decides (chars a) (chars b)).0 e in sym (encodes-chars a a_utf8) ∙ ap encode_utf8_all same ∙ encodes-chars b b_utf8,
      λ same. (bytes_eq-Decides (chars a) (chars b)).1 (ap chars same),
    )

pub All-head : {A : Type 0} (P : A → Type 0) (x : A) (xs : List A) → All P (x ∷ xs) → P x
All-head P x xs all = all 0 x (omega arith)

All-one : {A : Type 0} (P : A → Type 0) (x : A) → P x → All P (x ∷ [])
All-one P x holds = All-cons P x [] holds (All-nil P)

reverse-cons : {A : Type 0} (x : A) (xs : List A) → reverse (x ∷ xs) ≡ reverse xs ++ x ∷ []
reverse-cons x xs = reverse-append (x ∷ []) xs

pub All-reverse : {A : Type 0} (P : A → Type 0) (xs : List A) → All P xs → All P (reverse xs)
All-reverse P [] all = all
All-reverse P (x ∷ xs) all =
    subst (All P) (sym (reverse-cons x xs)) (All-append P (reverse xs) (x ∷ []) (All-reverse P xs (All-tail P x xs all)) (All-one P x (All-head P x xs all)))

pub map-reverse : {A B : Type 0} (f : A → B) (xs : List A) → map f (reverse xs) ≡ reverse (map f xs)
map-reverse f [] = refl
map-reverse f (x ∷ xs) =
    ap (map f) (reverse-cons x xs) ∙ map-append f (reverse xs) (x ∷ []) ∙ ap (λ ys. ys ++ f x ∷ []) (map-reverse f xs)
    ∙ sym (reverse-cons (f x) (map f xs))

-- what holds of all holds of the one that is found
pub find-All : {A : Type 0} (P : A → Type 0) (p : A → Bool) (xs : List A) → All P xs → IfSome (find p xs) P
find-All P p [] all = tt
find-All P p (x ∷ xs) all =
    elim (p x) as (λ b. IfSome (cond b (Some x) (find p xs)) P) [ true ↦ All-head P x xs all | false ↦ find-All P p xs (All-tail P x xs all) ]

-- in characters the same is found as in bytes
abbrev pub by_bytes : List ℕ → Namespace → Bool
by_bytes prefix n = pointwise ◌==◌ (string_bytes n.prefix) prefix

find-declared : (prefix : List ℕ) → IsUtf8 prefix → (xs : List Namespace) → All IsNamespace xs →
    find (λ n. is_text (chars prefix) n.prefix) (map declared xs) ≡ option_map declared (find (by_bytes prefix) xs)
find-declared prefix utf8 [] all = refl
find-declared prefix utf8 (x ∷ xs) all =
    let same : by_bytes prefix x ≡ is_text (chars prefix) (declared x).prefix = same_chars (string_bytes x.prefix) prefix (All-head IsNamespace x xs all).prefix_is_text utf8 in
    rw (← same) (elim (by_bytes prefix x) as (λ b. cond b (Some (declared x)) (find (λ n. is_text (chars prefix) n.prefix) (map declared xs)) ≡ option_map declared (cond b (Some x) (find (by_bytes prefix) xs))) [
      | true ↦ refl
      | false ↦ find-declared prefix utf8 xs (All-tail IsNamespace x xs all)
    ])

-- the namespace of a prefix, by the last declaration of it
pub namespace_found : (prefix : List ℕ) → IsUtf8 prefix → (xs : List Namespace) → All IsNamespace xs → (found : Option Namespace) →
    found ≡ find (by_bytes prefix) (reverse xs) →
    namespace_of (map declared xs) (chars prefix) ≡ option_map (λ n. n.iri) (option_map declared found)
namespace_found prefix utf8 xs all found is =
    ap (λ ns. option_map (λ n. n.iri) (find (λ n. is_text (chars prefix) n.prefix) ns)) (sym (map-reverse declared xs))
    ∙ ap (option_map (λ n. n.iri)) (find-declared prefix utf8 (reverse xs) (All-reverse IsNamespace xs all) ∙ ap (option_map declared) (sym is))
