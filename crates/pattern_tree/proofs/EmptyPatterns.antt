-- A pattern without triple patterns, for the tests: it is well designed and keeps the limits.
use Rattle.std.proofs.Common.{[], ◌∷◌, refl, arith, lit≤}
use Rattle.std.proofs.lemmas.List.Elements.{All-nil, All-cons}
use Rattle.bm_term.proofs.Elements.{Contains-nil}
use Rattle.alg_model.specs.Limits.{max_variables, PatternKeepsLimits}
use Rattle.alg_model.specs.Pattern.{Algebra, Bgp, LeftJoin}
use Rattle.alg_model.specs.WellDesigned.{IsFine, IsWellDesigned}

-- {} OPTIONAL {{} OPTIONAL {}}
abbrev pub empty_chain : Algebra
empty_chain = LeftJoin (Bgp []) (LeftJoin (Bgp []) (Bgp []))

pub chain_well_designed : IsWellDesigned empty_chain
chain_well_designed =
    All-cons IsFine (record { left = Bgp []; right = LeftJoin (Bgp []) (Bgp []); outside = [] }) (record { left = Bgp []; right = Bgp []; outside = [] } ∷ [])
    (λ var inside. absurd (Contains-nil var inside))
    (All-cons IsFine (record { left = Bgp []; right = Bgp []; outside = [] }) [] (λ var inside. absurd (Contains-nil var inside)) (All-nil IsFine))

pub chain_keeps_limits : PatternKeepsLimits max_variables empty_chain
chain_keeps_limits = record { vars_below = λ k d low. absurd (omega arith); few_optional = lit≤ tt; few_triples = lit≤ tt; numbered = refl }
