-- A query that a text denotes keeps the limits: the last of its tokens passes none.
use Rattle.std.proofs.Common.{◌≡◌, ◌⊎◌, inl, inr, ℕ, ◌≤◌, Bool, true, false, List, [], ◌∷◌, ◌++◌, length, None, Some, refl, sym, ap, subst, ◌∙◌, if◌then◌else◌, arith}
use Rattle.query_grammar.specs.Roles.{Labelled, count_of}
use Rattle.alg_model.specs.Limits.{PatternKeepsLimits}
use Rattle.alg_model.specs.Query.{AbstractQuery}
use Rattle.sparql_parse.specs.declared.fault.QueryFault.TheVariants as faults
use Rattle.sparql_parse.specs.Denotes.{Denotes}
use Rattle.sparql_parse.specs.Faults.{is_object, is_optional}
use Rattle.sparql_parse.specs.computed.Faults.{Counts, counts_of, fault_of, is_unknown, limit_among}
use Rattle.sparql_parse.specs.computed.Meaning.{scope_of}
use Rattle.sparql_parse.specs.computed.Names.{names_of, namespaces_of}
use Rattle.sparql_parse.proofs.ComputedDenotes as computed
use Rattle.sparql_parse.proofs.DenotingLaws.{denotes-computed}
use Rattle.sparql_parse.proofs.NameLaws.{within}
use Rattle.sparql_parse.proofs.QueryLimits.{names-fine, pattern-limits}

-- so many names, objects and OPTIONALs are within the limits
record AreWithin (counts : Counts) : Type 0 where
  names : counts.names ≤ 64
  objects : counts.objects ≤ 256
  optionals : counts.optionals ≤ 63

-- a list is empty, or it has a last item
ends : {A : Type 0} (xs : List A) → (xs ≡ []) ⊎ ((front : List A) × (last : A) × (xs ≡ front ++ last ∷ []))
ends [] = inl refl
ends (x ∷ xs) =
    elim (ends xs) as (λ _. (x ∷ xs ≡ []) ⊎ ((front : List _) × (last : _) × (x ∷ xs ≡ front ++ last ∷ []))) [
      | inl none ↦ inr ([], x, ap (λ rest. x ∷ rest) none)
      | inr some ↦ inr (x ∷ some.0, some.1, ap (λ rest. x ∷ rest) some.2)
    ]

-- a token without a fault is within the limits
within-last : (before : List Labelled) (l : Labelled) → fault_of before l ≡ None → AreWithin (counts_of (before ++ l ∷ []))
unfolding fault_of
within-last before l none =
    elim (is_unknown (namespaces_of before) l) as (λ b. (if b then Some (faults.UnknownPrefix l.token.at) else limit_among l.token.at (counts_of (before ++ l ∷ []))) ≡ None → AreWithin (counts_of (before ++ l ∷ []))) [
      | true ↦ λ wrong. absurd (cc)
      | false ↦ λ none. let (names, objects, optionals, groups) = within l.token.at (counts_of (before ++ l ∷ [])) none in record { names = names; objects = objects; optionals = optionals }
    ] none

within-nothing : AreWithin (counts_of [])
unfolding names_of
within-nothing = record { names = omega arith; objects = omega arith; optionals = omega arith }

-- tokens without faults are within the limits
within-all : (labelled : List Labelled) → computed.HasNoFaults labelled → AreWithin (counts_of labelled)
within-all labelled none =
    elim (ends labelled) as (λ _. AreWithin (counts_of labelled)) [
      | inl empty ↦ subst (λ ls. AreWithin (counts_of ls)) (sym empty) within-nothing
      | inr some ↦ subst (λ ls. AreWithin (counts_of ls)) (sym some.2) (within-last some.0 some.1 (none some.0 [] some.1 some.2))
    ]

-- the names of a query are few
pub denoted-names : (text : List ℕ) (query : AbstractQuery) → Denotes text query → length query.names ≤ 64
denoted-names text query d =
    let c = denotes-computed text query d in
    subst (λ names. length names ≤ 64) (sym c.meant.names) (within-all c.labelled c.no_faults).names

-- its pattern is over them, and keeps the limits
pub denoted-pattern : (text : List ℕ) (query : AbstractQuery) → Denotes text query → PatternKeepsLimits (length query.names) query.pattern
denoted-pattern text query d =
    let c = denotes-computed text query d in
    let few = within-all c.labelled c.no_faults in
    let limits = pattern-limits (scope_of c.labelled) c.tree c.labelled c.is_query (names-fine c.labelled) few.objects few.optionals in
    subst (λ names. PatternKeepsLimits (length names) query.pattern) (sym c.meant.names) (subst (PatternKeepsLimits (length (names_of c.labelled))) (sym c.meant.pattern) limits)
