-- Lists, of any items: what a `flat_map` has and has not, and a `filter_map` as one.
use Rattle.std.proofs.Common.{◌≡◌, ◌≢◌, ℕ, suc, ◌+◌, ◌-◌, ◌<◌, ◌++◌, inl, inr, List, [], ◌∷◌, length, take, get_or, flat_map, filter, if◌then◌else◌, Bool, true, false, All, AllPairs, Contains, Option, Some, None, IfSome, option_to_list, refl, sym, ◌∙◌, ap, subst, arith}
use Rattle.std.proofs.lemmas.Bool.{cases_lt}
use Rattle.std.proofs.lemmas.List.{take_more, get_or_append_left, get_or-append_right, length-append}
use Rattle.std.proofs.lemmas.List.Elements.{filter_map-append, All-nil, All-cons, All-head, All-tail, All-append, All-contains, Contains-get_or, Contains-append_left, Contains-append_right, Contains-append_cases}
use Rattle.std.specs.List.{filter_map, cons_option}
use Rattle.bm_term.proofs.Elements.{Contains-head, Contains-tail, Contains-cons_cases, Contains-nil, Contains-single}

-- an item that may be there, before nothing
cons_option-nil : {Y : Type 0} (o : Option Y) → cons_option o [] ≡ option_to_list o
cons_option-nil None = refl
cons_option-nil (Some y) = refl

-- an item that may be there, before others
cons_option-append : {Y : Type 0} (o : Option Y) (ys : List Y) → cons_option o ys ≡ option_to_list o ++ ys
cons_option-append None ys = refl
cons_option-append (Some y) ys = refl

-- a `filter_map` gives a list of one item, or of none, for each item
pub filter_map_as_flat_map : {X Y : Type 0} (f : X → Option Y) (xs : List X) → filter_map f xs ≡ flat_map (λ x. option_to_list (f x)) xs
filter_map_as_flat_map f [] = refl
filter_map_as_flat_map f (x ∷ xs) =
    cons_option-append (f x) (filter_map f xs) ∙ ap (λ ys. option_to_list (f x) ++ ys) (filter_map_as_flat_map f xs)

-- and so does a filter
pub filter_as_flat_map : {X : Type 0} (p : X → Bool) (xs : List X) → filter p xs ≡ flat_map (λ x. if p x then x ∷ [] else []) xs
filter_as_flat_map p [] = refl
filter_as_flat_map p (x ∷ xs) =
    elim (p x) as (λ b. (if b then x ∷ filter p xs else filter p xs) ≡ (if b then x ∷ [] else []) ++ flat_map (λ x. if p x then x ∷ [] else []) xs) [
      | true ↦ ap (λ ys. x ∷ ys) (filter_as_flat_map p xs)
      | false ↦ filter_as_flat_map p xs
    ]

-- what f gives of one more item, x, which is the item at i
pub filter_map-more : {X Y : Type 0} (f : X → Option Y) (xs : List X) (i : ℕ) (x : X) → i < length xs → x ≡ get_or xs i x → filter_map f (take (i + 1) xs) ≡ filter_map f (take i xs) ++ option_to_list (f x)
filter_map-more f xs i x h is =
    ap (filter_map f) (take_more xs i x h) ∙ filter_map-append f (take i xs) (get_or xs i x ∷ [])
    ∙ ap (λ y. filter_map f (take i xs) ++ filter_map f (y ∷ [])) (sym is)
    ∙ ap (λ ys. filter_map f (take i xs) ++ ys) (cons_option-nil (f x))

-- what f gives has Q, where f gives only such of what has P
pub All-filter_map : {X Y : Type 0} (f : X → Option Y) (P : X → Type 0) (Q : Y → Type 0) → ((x : X) → P x → IfSome (f x) Q) → (xs : List X) → All P xs → All Q (filter_map f xs)
All-filter_map f P Q gives [] all = All-nil Q
All-filter_map f P Q gives (x ∷ xs) all =
    let rest = All-filter_map f P Q gives xs (All-tail P x xs all) in
    elim (f x) as (λ o. IfSome o Q → All Q (cons_option o (filter_map f xs))) [
      | None ↦ λ _. rest
      | Some y ↦ λ h. All-cons Q y (filter_map f xs) h rest
    ] (gives x (All-head P x xs all))

-- the same of a `flat_map`
pub All-flat_map : {X Y : Type 0} (f : X → List Y) (P : X → Type 0) (Q : Y → Type 0) → ((x : X) → P x → All Q (f x)) → (xs : List X) → All P xs → All Q (flat_map f xs)
All-flat_map f P Q gives [] all = All-nil Q
All-flat_map f P Q gives (x ∷ xs) all =
    All-append Q (f x) (flat_map f xs) (gives x (All-head P x xs all)) (All-flat_map f P Q gives xs (All-tail P x xs all))

-- ---- which elements a list has

-- an item that is there, in the list of it
pub Contains-option : {X : Type 0} (o : Option X) (x : X) → o ≡ Some x → Contains (option_to_list o) x
Contains-option o x is = rw is (Contains-head x [])

-- the list of an item that may be there has no other
pub option-Contains : {X : Type 0} (o : Option X) (x : X) → Contains (option_to_list o) x → o ≡ Some x
option-Contains None x h = absurd (Contains-nil x h)
option-Contains (Some z) x h = ap Some (Contains-single z x h)

-- a `flat_map` has what f gives of an item
pub Contains-flat_map : {X Y : Type 0} (f : X → List Y) (xs : List X) (x : X) (y : Y) → Contains xs x → Contains (f x) y → Contains (flat_map f xs) y
Contains-flat_map f [] x y at gives = absurd (Contains-nil x at)
Contains-flat_map f (z ∷ xs) x y at gives =
    elim (Contains-cons_cases z xs x at) as (λ _. Contains (f z ++ flat_map f xs) y) [
      | inl e ↦ Contains-append_left (f z) (flat_map f xs) y (subst (λ w. Contains (f w) y) (sym e) gives)
      | inr later ↦ Contains-append_right (f z) (flat_map f xs) y (Contains-flat_map f xs x y later gives)
    ]

-- the item that gave y
pub source-flat_map : {X Y : Type 0} (f : X → List Y) (xs : List X) (y : Y) → Contains (flat_map f xs) y → (x : X) × Contains xs x × Contains (f x) y
source-flat_map f [] y h = absurd (Contains-nil y h)
source-flat_map {X} f (z ∷ xs) y h =
    elim (Contains-append_cases (f z) (flat_map f xs) y h) as (λ _. (x : X) × Contains (z ∷ xs) x × Contains (f x) y) [
      | inl first ↦ (z, Contains-head z xs, first)
      | inr later ↦ let from = source-flat_map f xs y later in (from.0, Contains-tail z xs from.0 from.1, from.2)
    ]

-- ---- lists in which nothing stands twice

-- R of each two, where it holds of each two of the same part, and across
pub AllPairs-append : {X : Type 0} (R : X → X → Type 0) (xs ys : List X) → AllPairs R xs → AllPairs R ys → ((x y : X) → Contains xs x → Contains ys y → R x y) → AllPairs R (xs ++ ys)
AllPairs-append R xs ys hx hy across i j d lt within =
    let long = length-append xs ys in
    elim (cases_lt j (length xs)) as (λ _. R (get_or (xs ++ ys) i d) (get_or (xs ++ ys) j d)) [
      | inl low ↦ rw (get_or_append_left xs ys d i (omega arith), get_or_append_left xs ys d j low) (hx i j d lt low)
      | inr high ↦
          let second = get_or-append_right xs ys (length xs) j d refl high in
          elim (cases_lt i (length xs)) as (λ _. R (get_or (xs ++ ys) i d) (get_or (xs ++ ys) j d)) [
            | inl low ↦ rw (get_or_append_left xs ys d i low, second) (across (get_or xs i d) (get_or ys (j - length xs) d) (Contains-get_or xs i d low) (Contains-get_or ys (j - length xs) d (omega arith)))
            | inr higher ↦ rw (get_or-append_right xs ys (length xs) i d refl higher, second) (hy (i - length xs) (j - length xs) d (omega arith) (omega arith))
          ]
    ]

-- R of the first item and each later one
pub AllPairs-head : {X : Type 0} (R : X → X → Type 0) (x : X) (xs : List X) → AllPairs R (x ∷ xs) → All (R x) xs
AllPairs-head R x xs h k d within = h 0 (suc k) d (omega arith) (omega arith)

-- R of each two of the rest
pub AllPairs-tail : {X : Type 0} (R : X → X → Type 0) (x : X) (xs : List X) → AllPairs R (x ∷ xs) → AllPairs R xs
AllPairs-tail R x xs h i j d lt within = h (suc i) (suc j) d (omega arith) (omega arith)

-- one item makes no pair
pub AllPairs-option : {X : Type 0} (R : X → X → Type 0) (o : Option X) → AllPairs R (option_to_list o)
AllPairs-option R None i j d lt within = absurd (omega arith)
AllPairs-option R (Some x) i j d lt within = absurd (omega arith)

-- nothing stands twice in a `flat_map`, where nothing stands twice in its list or in what f gives, and no two items give the same
pub once-flat_map : {X Y : Type 0} (f : X → List Y) (xs : List X) → AllPairs (λ x z. x ≢ z) xs → ((x : X) → Contains xs x → AllPairs (λ y z. y ≢ z) (f x)) →
    ((x z : X) (y : Y) → Contains xs x → Contains xs z → Contains (f x) y → Contains (f z) y → x ≡ z) → AllPairs (λ y z. y ≢ z) (flat_map f xs)
once-flat_map f [] once each apart = λ i j d lt within. absurd (omega arith)
once-flat_map f (x ∷ xs) once each apart =
    let tail = Contains-tail x xs in
    AllPairs-append (λ y z. y ≢ z) (f x) (flat_map f xs) (each x (Contains-head x xs))
    (once-flat_map f xs (AllPairs-tail (λ x z. x ≢ z) x xs once) (λ z at. each z (tail z at)) (λ z w y p q. apart z w y (tail z p) (tail w q)))
    (λ y y' here later same.
    let from = source-flat_map f xs y' later in
    All-contains (λ z. x ≢ z) xs from.0 (AllPairs-head (λ x z. x ≢ z) x xs once) from.1
    (apart x from.0 y' (Contains-head x xs) (tail from.0 from.1) (subst (Contains (f x)) same here) from.2))
