-- The number of a variable is the place at which its name is listed.
use Rattle.std.proofs.Common.{◌≡◌, ◌≢◌, ℕ, zero, suc, ◌+◌, ◌<◌, Bool, true, false, ◌||◌, cond, not, nat_lt, List, [], ◌∷◌, length, get_or, Option, Some, None, refl, sym, ap, ◌∙◌, arith}
use Rattle.std.specs.Prelude.{AllPairs, slice_get}
use Rattle.std.specs.List.{prefix_len, position, list_any}
use Rattle.std.specs.Option.{option_map, option_map_or}
use Rattle.std.proofs.lemmas.Bool.Decides.{nat_tests}
use Rattle.std.proofs.lemmas.Slice.Eq.{bytes_eq-Decides}
use Rattle.std.proofs.lemmas.Option.{slice_get_within, get_or_from_slice_get}
use Rattle.query_tokens.specs.Token.{Lexeme}
use Rattle.query_values.specs.reading.Values.{name_of}
use Rattle.sparql_parse.specs.computed.Names.{is_text}
use Rattle.sparql_parse.specs.computed.Meaning.{number_of}
use Rattle.sparql_parse.specs.Names.{HasNumber}
use Rattle.query_values.proofs.SpelledTokens.{SpellsVariable-is}

-- where an item stands, from the front on
abbrev place_in : {A : Type 0} → (A → Bool) → List A → Option ℕ
place_in p [] = None
place_in p (x ∷ xs) = cond (p x) (Some 0) (option_map (λ n. 1 + n) (place_in p xs))

-- how many items come before the first that passes
abbrev front_of : {A : Type 0} → (A → Bool) → List A → ℕ
front_of p xs = prefix_len (λ x. not (p x)) xs

-- a place is one further with one item more in front
shifted : (k n : ℕ) → (cond (nat_lt (1 + k) (1 + n)) (Some (1 + k)) None) ≡ option_map (λ m. 1 + m) (cond (nat_lt k n) (Some k) None)
shifted k n =
    let same : nat_lt (1 + k) (1 + n) ≡ nat_lt k n = grind (arith, nat_tests) in
    ap (λ b. cond b (Some (1 + k)) None) same ∙ (elim (nat_lt k n) as (λ b. cond b (Some (1 + k)) None ≡ option_map (λ m. 1 + m) (cond b (Some k) None)) [ true ↦ refl | false ↦ refl ])

-- the first place
first_place : (n : ℕ) → (cond {A = Option ℕ} (nat_lt 0 (1 + n)) (Some 0) None) ≡ Some 0
first_place n = let same : nat_lt 0 (1 + n) ≡ true = grind (arith, nat_tests) in ap (λ b. cond {A = Option ℕ} b (Some 0) None) same

-- the place of std is the same
position-place : {A : Type 0} (p : A → Bool) (xs : List A) → position p xs ≡ place_in p xs
position-place p [] = refl
position-place p (x ∷ xs) =
    let long : length (x ∷ xs) ≡ 1 + length xs = omega arith in
    ap (λ n. cond (nat_lt (front_of p (x ∷ xs)) n) (Some (front_of p (x ∷ xs))) None) long
    ∙ (elim (p x) as (λ b. cond (nat_lt (cond (not b) (1 + front_of p xs) 0) (1 + length xs)) (Some (cond (not b) (1 + front_of p xs) 0)) None ≡ cond b (Some 0) (option_map (λ n. 1 + n) (place_in p xs))) [
      | true ↦ first_place (length xs)
      | false ↦ shifted (front_of p xs) (length xs) ∙ ap (option_map (λ n. 1 + n)) (position-place p xs)
    ])

-- a name stands where it is listed
abbrev pub Differ : List (List ℕ) → Type 0
Differ names = AllPairs (λ a b. a ≢ b) names

-- names that differ still do without the first
Differ-rest : (x : List ℕ) (xs : List (List ℕ)) → Differ (x ∷ xs) → Differ xs
Differ-rest x xs h i j d lt within = h (suc i) (suc j) d (omega arith) (omega arith)

-- a name that is listed at a place has that place
listed-place : (names : List (List ℕ)) (name : List ℕ) (n : ℕ) → Differ names → slice_get names n ≡ Some name → place_in (is_text name) names ≡ Some n
listed-place [] name zero differ e = absurd (cc)
listed-place [] name (suc n) differ e = absurd (cc)
listed-place (x ∷ xs) name zero differ e =
    let same : x ≡ name = cc in
    ap (λ b. cond b (Some 0) (option_map (λ m. 1 + m) (place_in (is_text name) xs))) ((bytes_eq-Decides x name).1 same)
listed-place (x ∷ xs) name (suc n) differ e =
    let inside : n < length xs = slice_get_within xs n name e in
    let there : get_or xs n name ≡ name = get_or_from_slice_get xs n name name e in
    let other : x ≢ name = λ same. differ 0 (suc n) name (omega arith) (omega arith) (same ∙ sym there) in
    let one : 1 + n ≡ suc n = omega arith in
    elim (is_text name x) as (λ b. is_text name x ≡ b → cond b (Some 0) (option_map (λ m. 1 + m) (place_in (is_text name) xs)) ≡ Some (suc n)) [
      | true ↦ λ t. absurd (other ((bytes_eq-Decides x name).0 t))
      | false ↦ λ t. ap (option_map (λ m. 1 + m)) (listed-place xs name n (Differ-rest x xs differ) e) ∙ ap Some one
    ] refl

-- a name that is there is listed where it stands
place-listed : (names : List (List ℕ)) (name : List ℕ) → list_any (is_text name) names ≡ true → (n : ℕ) × (place_in (is_text name) names ≡ Some n) × (slice_get names n ≡ Some name)
place-listed [] name e = absurd (cc)
place-listed (x ∷ xs) name e =
    elim (is_text name x) as (λ b. is_text name x ≡ b → (b || list_any (is_text name) xs) ≡ true → (n : ℕ) × (cond b (Some 0) (option_map (λ m. 1 + m) (place_in (is_text name) xs)) ≡ Some n) × (slice_get (x ∷ xs) n ≡ Some name)) [
      | true ↦ λ t any. (0, refl, ap Some ((bytes_eq-Decides x name).0 t))
      | false ↦ λ t any.
          let (n, place, listed) = place-listed xs name any in
          let one : 1 + n ≡ suc n = omega arith in
          (suc n, ap (option_map (λ m. 1 + m)) place ∙ ap Some one, listed)
    ] refl e

-- the number of a name is its place
place-number : (names : List (List ℕ)) (name : List ℕ) (n : ℕ) → place_in (is_text name) names ≡ Some n → number_of names name ≡ n
place-number names name n e = ap (λ o. option_map_or (λ m. m) o 0) (position-place (is_text name) names ∙ e)

-- a number that a variable has is that of its name
pub HasNumber-is : (names : List (List ℕ)) (token : Lexeme) (n : ℕ) → Differ names → HasNumber names token n → number_of names (name_of token) ≡ n
HasNumber-is names token n differ h =
    ap (number_of names) (SpellsVariable-is token h.name h.spelled) ∙ place-number names h.name n (listed-place names h.name n differ h.listed)

-- a name that is there is listed at its number
pub number_of-listed : (names : List (List ℕ)) (name : List ℕ) → list_any (is_text name) names ≡ true → slice_get names (number_of names name) ≡ Some name
number_of-listed names name e =
    let (n, place, listed) = place-listed names name e in
    ap (slice_get names) (place-number names name n place) ∙ listed
