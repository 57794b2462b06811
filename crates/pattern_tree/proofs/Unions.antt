-- A row that solves two lists of triple patterns is the union of two rows, each of which solves one of them.
use Rattle.std.proofs.Common.{◌≡◌, ℕ, ◌++◌, inl, inr, List, get_or, All, Any, Contains, Some, sym, ◌∙◌, subst}
use Rattle.std.proofs.lemmas.List.Elements.{All-append, Contains-get_or, Contains-append_left, Contains-append_right, Contains-append_cases}
use Rattle.alg_model.specs.declared.pattern.TriplePat.{TriplePat}
use Rattle.alg_model.specs.Row.{Row, binding, Extends}
use Rattle.alg_model.specs.Pattern.{triple_vars}
use Rattle.alg_model.specs.Eval.{Interpretation}
use Rattle.alg_model.specs.Solution.{BindsJust, Makes, TellsValues}
use Rattle.alg_model.proofs.BasicPatterns.{looks_makes}
use Rattle.alg_model.proofs.Cells.{cases_Option, IsUnion, same_rows}
use Rattle.alg_model.proofs.Joins.{unbound_elsewhere, union_binds, agrees, cut, width-cut, cut_binds, cut_inside, cut_value}
use Rattle.alg_model.proofs.Lists.{Contains-flat_map}
use Rattle.alg_model.proofs.VarSets.{All-left, All-right}
use Rattle.alg_model.proofs.Width.{HasWidth}
use Rattle.pattern_tree.specs.Solution.{Family, IsSolutionOf}
use Rattle.pattern_tree.proofs.Choices.{list_vars, list_vars-append}

module _ {V X : Type 0} (interpretation : Interpretation V X) (n : ℕ) (family : Family X) where
  -- the row makes the triple pattern one of the triples of its list
  abbrev pub IsMade : Row V → TriplePat → Type 0
  IsMade row pattern = Any (Makes interpretation row pattern) (family pattern)

  -- rows that agree on the variables of a list make the same
  made_along : (tells : TellsValues interpretation) (list : List TriplePat) (r s : Row V) → ((k : ℕ) → Contains (list_vars list) k → binding r k ≡ binding s k) → All (IsMade r) list → All (IsMade s) list
  made_along tells list r s same made k d low =
      let pattern = get_or list k d in
      let there = Contains-get_or list k d low in
      let a = made k d low in
      (a.0, a.1, a.2, a.3, (looks_makes interpretation tells n pattern a.1).along r s (λ v at. same v (Contains-flat_map triple_vars list pattern v there at)) a.4)

  -- the union of rows that solve two lists solves both
  pub solution-union : (tells : TellsValues interpretation) (first second : List TriplePat) (r s q : Row V) → IsSolutionOf interpretation n family first r → IsSolutionOf interpretation n family second s →
      HasWidth n q → IsUnion r s q → IsSolutionOf interpretation n family (first ++ second) q
  solution-union tells first second r s q is_r is_s width u = record {
    width = width;
    binds = subst (BindsJust q) (sym (list_vars-append first second)) (union_binds (list_vars first) (list_vars second) r s q is_r.binds is_s.binds u);
    made = All-append (IsMade q) first second
        (made_along tells first r q (agrees (list_vars first) r q is_r.binds u.left) is_r.made)
        (made_along tells second s q (agrees (list_vars second) s q is_s.binds u.right) is_s.made);
  }

  -- a row that solves both lists, cut to each
  pub record IsCut (first second : List TriplePat) (q : Row V) : Type 0 where
    pub r : Row V
    pub s : Row V
    pub is_r : IsSolutionOf interpretation n family first r
    pub is_s : IsSolutionOf interpretation n family second s
    pub union : IsUnion r s q

  pub solution-cut : (tells : TellsValues interpretation) (first second : List TriplePat) (q : Row V) → IsSolutionOf interpretation n family (first ++ second) q → IsCut first second q
  solution-cut tells first second q is =
      let vs = list_vars first in
      let ws = list_vars second in
      let binds : BindsJust q (vs ++ ws) = subst (BindsJust q) (list_vars-append first second) is.binds in
      let r = cut n vs q in
      let s = cut n ws q in
      let binds_r = cut_binds n vs q is.width (λ k at. (binds k).1 (Contains-append_left vs ws k at)) in
      let binds_s = cut_binds n ws q is.width (λ k at. (binds k).1 (Contains-append_right vs ws k at)) in
      record {
        r = r;
        s = s;
        is_r = record {
          width = width-cut n vs q is.width;
          binds = binds_r;
          made = made_along tells first q r (λ k at. sym (cut_inside n vs q is.width k at)) (All-left (IsMade q) first second is.made);
        };
        is_s = record {
          width = width-cut n ws q is.width;
          binds = binds_s;
          made = made_along tells second q s (λ k at. sym (cut_inside n ws q is.width k at)) (All-right (IsMade q) first second is.made);
        };
        union = record {
          left = λ k v e. (cut_value n vs q is.width k v e).1;
          right = λ k v e. (cut_value n ws q is.width k v e).1;
          no_more = λ k e f. unbound_elsewhere q (vs ++ ws) k binds (λ at. elim (Contains-append_cases vs ws k at) as (λ _. ⊥) [
            | inl there ↦ (let some = (binds_r k).1 there in cc)
            | inr there ↦ (let some = (binds_s k).1 there in cc)
          ]);
        };
      }

-- ---- rows that extend others

-- a row extends itself
pub Extends-refl : {V : Type 0} (r : Row V) → Extends r r
Extends-refl r var value is = is

-- what extends a row that extends another extends that
pub Extends-trans : {V : Type 0} (q r s : Row V) → Extends q r → Extends r s → Extends q s
Extends-trans q r s a b var value is = a var value (b var value is)

-- rows that extend each other are one
pub Extends-both : {V : Type 0} (n : ℕ) (r s : Row V) → HasWidth n r → HasWidth n s → Extends r s → Extends s r → r ≡ s
Extends-both n r s hr hs a b = same_rows n r s hr hs (λ k. elim (cases_Option (binding r k)) as (λ _. binding r k ≡ binding s k) [
  | inl some ↦ some.1 ∙ sym (b k some.0 some.1)
  | inr none ↦ elim (cases_Option (binding s k)) as (λ _. binding r k ≡ binding s k) [
    | inl some ↦ (let is = a k some.0 some.1 in cc)
    | inr nothing ↦ none ∙ sym nothing
  ]
])

-- what extends both rows of a union extends it
pub Extends-union : {V : Type 0} (r s q whole : Row V) → IsUnion r s q → Extends whole r → Extends whole s → Extends whole q
Extends-union r s q whole u a b k value is = elim (cases_Option (binding r k)) as (λ _. binding whole k ≡ Some value) [
  | inl first ↦ (let mine = a k first.0 first.1 in let kept = u.left k first.0 first.1 in cc)
  | inr none ↦ elim (cases_Option (binding s k)) as (λ _. binding whole k ≡ Some value) [
    | inl second ↦ (let mine = b k second.0 second.1 in let kept = u.right k second.0 second.1 in cc)
    | inr nothing ↦ (let kept = u.no_more k none nothing in cc)
  ]
]
