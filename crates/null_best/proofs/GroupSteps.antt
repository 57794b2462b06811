-- Groups that are found one after another.
use Rattle.std.proofs.Common.{◌≡◌, inl, inr, ℕ, ◌+◌, ◌<◌, ◌≤◌, List, [], ◌∷◌, ◌++◌, length, All, Any, refl, arith, ◌∙◌, length-append}
use Rattle.std.proofs.lemmas.Bool.{cases_lt}
use Rattle.std.proofs.lemmas.List.{get_or_append_left}
use Rattle.std.proofs.Math.Seq.{get_or-append_seam}
use Rattle.std.proofs.lemmas.List.Elements.{All-push}
use Rattle.null_best.specs.declared.groups.Group.{Group}
use Rattle.null_best.specs.steps.Groups.{IsIn, BindSet, IsGroup, AreGroupsBelow}

Any-before : {X : Type 0} (P : X → Type 0) (xs : List X) (y : X) → Any P xs → Any P (xs ++ y ∷ [])
Any-before P xs y any = (any.0, any.1, omega (arith, any.2, length-append xs (y ∷ [])), get_or_append_left xs (y ∷ []) any.1 any.0 any.2 ∙ any.3, any.4)

Any-last : {X : Type 0} (P : X → Type 0) (xs : List X) (y : X) → P y → Any P (xs ++ y ∷ [])
Any-last P xs y p = (length xs, y, omega (arith, length-append xs (y ∷ [])), get_or-append_seam xs y [] y, p)

-- one group more
pub groups-step : (keys : List (List ℕ)) (groups : List Group) (start end set : ℕ) → AreGroupsBelow keys groups start → start < end → BindSet keys set start end →
    AreGroupsBelow keys (groups ++ record { vars = set; start = start; end = end } ∷ []) end
groups-step keys groups start end set are more binds = record {
  each = All-push (IsGroup keys) groups (record { vars = set; start = start; end = end }) are.each (record { ordered = omega arith; binds = binds });
  covered = λ k lt. elim (cases_lt k start) [
    | inl earlier ↦ Any-before (λ group. IsIn group k) groups (record { vars = set; start = start; end = end }) (are.covered k earlier)
    | inr from ↦ Any-last (λ group. IsIn group k) groups (record { vars = set; start = start; end = end }) (record { from = from; below = lt })
  ];
}
