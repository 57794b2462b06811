-- The triple patterns of a rooted set of nodes, part by part: those of the left side of an OPTIONAL, with or without
-- those of its right side. They hold the root's, and in a well-designed pattern a variable that a part shares with what
-- is outside of it stands in the root of the part.
use Rattle.std.proofs.Common.{◌≡◌, ◌⊎◌, ℕ, ◌++◌, inl, inr, List, ◌∷◌, All, Contains, sym, subst}
use Rattle.std.proofs.lemmas.List.Concat.{flat_map-append}
use Rattle.std.proofs.lemmas.List.Elements.{All-head, All-tail, Contains-append_left, Contains-append_right, Contains-append_cases}
use Rattle.alg_model.specs.declared.pattern.TriplePat.{TriplePat}
use Rattle.alg_model.specs.Pattern.{Algebra, Bgp, Join, LeftJoin, triple_vars, vars_of}
use Rattle.alg_model.specs.WellDesigned.{OptionalPart, optionals_beside, IsFine}
use Rattle.alg_model.proofs.VarSets.{All-left, All-right}
use Rattle.pattern_tree.specs.Tree.{root_patterns}

-- the variables of a list of triple patterns
abbrev pub list_vars : List TriplePat → List ℕ
list_vars list = vars_of (Bgp list)

-- those of two lists are those of each
pub list_vars-append : (first second : List TriplePat) → list_vars (first ++ second) ≡ list_vars first ++ list_vars second
list_vars-append first second = flat_map-append triple_vars first second

pub in_first : (first second : List TriplePat) (var : ℕ) → Contains (list_vars first) var → Contains (list_vars (first ++ second)) var
in_first first second var at = subst (λ vars. Contains vars var) (sym (list_vars-append first second)) (Contains-append_left (list_vars first) (list_vars second) var at)

pub in_second : (first second : List TriplePat) (var : ℕ) → Contains (list_vars second) var → Contains (list_vars (first ++ second)) var
in_second first second var at = subst (λ vars. Contains vars var) (sym (list_vars-append first second)) (Contains-append_right (list_vars first) (list_vars second) var at)

pub in_either : (first second : List TriplePat) (var : ℕ) → Contains (list_vars (first ++ second)) var → Contains (list_vars first) var ⊎ Contains (list_vars second) var
in_either first second var at = Contains-append_cases (list_vars first) (list_vars second) var (subst (λ vars. Contains vars var) (list_vars-append first second) at)

-- ---- choices

-- a list of the first kind, and then one of the second
pub record IsBothOf (P Q : List TriplePat → Type 0) (list : List TriplePat) : Type 0 where
  pub first : List TriplePat
  pub second : List TriplePat
  pub is_first : P first
  pub is_second : Q second
  pub both : list ≡ first ++ second

-- the triple patterns of a rooted set of nodes
abbrev pub IsChoice : Algebra → List TriplePat → Type 0
IsChoice (Bgp patterns) list = list ≡ patterns
IsChoice (Join left right) list = IsBothOf (IsChoice left) (IsChoice right) list
IsChoice (LeftJoin left right) list = IsChoice left list ⊎ IsBothOf (IsChoice left) (IsChoice right) list

-- their variables are of the pattern
pub choice_inside : (pattern : Algebra) (list : List TriplePat) (var : ℕ) → IsChoice pattern list → Contains (list_vars list) var → Contains (vars_of pattern) var
choice_inside (Bgp patterns) list var is at = subst (λ list. Contains (list_vars list) var) is at
choice_inside (Join left right) list var is at = elim (in_either is.first is.second var (subst (λ list. Contains (list_vars list) var) is.both at)) as (λ _. Contains (vars_of left ++ vars_of right) var) [
  | inl there ↦ Contains-append_left (vars_of left) (vars_of right) var (choice_inside left is.first var is.is_first there)
  | inr there ↦ Contains-append_right (vars_of left) (vars_of right) var (choice_inside right is.second var is.is_second there)
]
choice_inside (LeftJoin left right) list var (inl is) at = Contains-append_left (vars_of left) (vars_of right) var (choice_inside left list var is at)
choice_inside (LeftJoin left right) list var (inr is) at = elim (in_either is.first is.second var (subst (λ list. Contains (list_vars list) var) is.both at)) as (λ _. Contains (vars_of left ++ vars_of right) var) [
  | inl there ↦ Contains-append_left (vars_of left) (vars_of right) var (choice_inside left is.first var is.is_first there)
  | inr there ↦ Contains-append_right (vars_of left) (vars_of right) var (choice_inside right is.second var is.is_second there)
]

-- and those of the root are theirs
pub choice_root : (pattern : Algebra) (list : List TriplePat) (var : ℕ) → IsChoice pattern list → Contains (list_vars (root_patterns pattern)) var → Contains (list_vars list) var
choice_root (Bgp patterns) list var is at = subst (λ list. Contains (list_vars list) var) (sym is) at
choice_root (Join left right) list var is at =
    subst (λ list. Contains (list_vars list) var) (sym is.both) (elim (in_either (root_patterns left) (root_patterns right) var at) as (λ _. Contains (list_vars (is.first ++ is.second)) var) [
      | inl there ↦ in_first is.first is.second var (choice_root left is.first var is.is_first there)
      | inr there ↦ in_second is.first is.second var (choice_root right is.second var is.is_second there)
    ])
choice_root (LeftJoin left right) list var (inl is) at = choice_root left list var is at
choice_root (LeftJoin left right) list var (inr is) at =
    subst (λ list. Contains (list_vars list) var) (sym is.both) (in_first is.first is.second var (choice_root left is.first var is.is_first at))

-- ---- well designed, beside some variables

-- each OPTIONAL of the part is fine, where these variables occur outside of the part
abbrev pub IsFineBeside : List ℕ → Algebra → Type 0
IsFineBeside outside pattern = All IsFine (optionals_beside outside pattern)

module _ (outside : List ℕ) (left right : Algebra) where
  abbrev part : OptionalPart
  part = record { left = left; right = right; outside = outside }

  abbrev left_parts : List OptionalPart
  left_parts = optionals_beside (outside ++ vars_of right) left

  abbrev right_parts : List OptionalPart
  right_parts = optionals_beside (outside ++ vars_of left) right

  -- so are those of each side
  pub fine-join_left : IsFineBeside outside (Join left right) → IsFineBeside (outside ++ vars_of right) left
  fine-join_left fine = All-left IsFine left_parts right_parts fine

  pub fine-join_right : IsFineBeside outside (Join left right) → IsFineBeside (outside ++ vars_of left) right
  fine-join_right fine = All-right IsFine left_parts right_parts fine

  pub fine-left_join_left : IsFineBeside outside (LeftJoin left right) → IsFineBeside (outside ++ vars_of right) left
  fine-left_join_left fine = All-left IsFine left_parts (part ∷ right_parts) fine

  pub fine-left_join_right : IsFineBeside outside (LeftJoin left right) → IsFineBeside (outside ++ vars_of left) right
  fine-left_join_right fine = All-tail IsFine part right_parts (All-right IsFine left_parts (part ∷ right_parts) fine)

  -- and the OPTIONAL itself
  pub fine-own : IsFineBeside outside (LeftJoin left right) → IsFine part
  fine-own fine = All-head IsFine part right_parts (All-right IsFine left_parts (part ∷ right_parts) fine)

-- a variable that occurs in a part and outside of it occurs in the root of the part
pub shared_in_root : (pattern : Algebra) (outside : List ℕ) → IsFineBeside outside pattern → (var : ℕ) → Contains (vars_of pattern) var → Contains outside var → Contains (list_vars (root_patterns pattern)) var
shared_in_root (Bgp patterns) outside fine var at out = at
shared_in_root (Join left right) outside fine var at out = elim (Contains-append_cases (vars_of left) (vars_of right) var at) as (λ _. Contains (list_vars (root_patterns left ++ root_patterns right)) var) [
  | inl there ↦ in_first (root_patterns left) (root_patterns right) var
      (shared_in_root left (outside ++ vars_of right) (fine-join_left outside left right fine) var there (Contains-append_left outside (vars_of right) var out))
  | inr there ↦ in_second (root_patterns left) (root_patterns right) var
      (shared_in_root right (outside ++ vars_of left) (fine-join_right outside left right fine) var there (Contains-append_left outside (vars_of left) var out))
]
shared_in_root (LeftJoin left right) outside fine var at out =
    let from_left = λ (there : Contains (vars_of left) var). shared_in_root left (outside ++ vars_of right) (fine-left_join_left outside left right fine) var there (Contains-append_left outside (vars_of right) var out) in
    elim (Contains-append_cases (vars_of left) (vars_of right) var at) as (λ _. Contains (list_vars (root_patterns left)) var) [
      | inl there ↦ from_left there
      | inr there ↦ from_left (fine-own outside left right fine var there out)
    ]

-- a variable of both sides is in the root of each
pub record ShareRoots (left right : Algebra) : Type 0 where
  pub in_left : (var : ℕ) → Contains (vars_of left) var → Contains (vars_of right) var → Contains (list_vars (root_patterns left)) var
  pub in_right : (var : ℕ) → Contains (vars_of left) var → Contains (vars_of right) var → Contains (list_vars (root_patterns right)) var

pub sides_share : (outside : List ℕ) (left right : Algebra) → IsFineBeside (outside ++ vars_of right) left → IsFineBeside (outside ++ vars_of left) right → ShareRoots left right
sides_share outside left right fine_left fine_right = record {
  in_left = λ var l r. shared_in_root left (outside ++ vars_of right) fine_left var l (Contains-append_right outside (vars_of right) var r);
  in_right = λ var l r. shared_in_root right (outside ++ vars_of left) fine_right var r (Contains-append_right outside (vars_of left) var l);
}
