-- Edges of triple patterns, one after the other, and the sets that they make.
use Rattle.std.proofs.Common.{◌≡◌, ◌↔◌, ◌⊎◌, inl, inr, ℕ, ◌+◌, ◌<◌, ◌≤◌, ◌++◌, List, [], ◌∷◌, length, replicate, set, take, get_or, bit_or, All, Contains, append-nil, refl, sym, ◌∙◌, ap, subst, arith}
use Rattle.std.specs.Prelude.{slice_index}
use Rattle.std.proofs.lemmas.Grind.{flat_map-append}
use Rattle.std.proofs.lemmas.Bool.{cases_eq, cases_lt}
use Rattle.std.proofs.lemmas.List.{take_more, get_or-set_same, get_or-set_other, get_or-take, get_or_past, length-take, get_or-replicate, length-replicate}
use Rattle.std.proofs.lemmas.List.Elements.{All-contains, Contains-append_left, Contains-append_cases, Contains-push, Contains-push_cases}
use Rattle.alg_model.specs.declared.pattern.Place.{Place}
use Rattle.alg_model.specs.declared.pattern.Place.TheVariants as places
use Rattle.alg_model.specs.declared.pattern.TriplePat.{TriplePat}
use Rattle.alg_model.specs.Pattern.{place_vars, triple_vars}
use Rattle.alg_model.specs.VarSet.{HoldsJust, PlaceFits}
use Rattle.bm_term.proofs.Elements.{Contains-nil, Contains-single}
use Rattle.join_graph.specs.Members.{HasVariable, PatternHas}
use Rattle.join_graph.proofs.Bits.{HasVariable-zero, HasVariable-or}
use Rattle.node_plans.specs.Placed.{pattern_edges, edges_of, HasEdge, IsPlaced}
use Rattle.pruning_laws.specs.Shown.{entry_of}

-- no triple pattern has no edge
pub no_edge : (p v : ℕ) → HasEdge [] p v → ⊥
no_edge p v edge = Contains-nil edge.pattern edge.among

-- one triple pattern more has its own edges more
pub one_more : (patterns : List TriplePat) (one : TriplePat) (p v : ℕ) →
    HasEdge (patterns ++ one ∷ []) p v ↔ (HasEdge patterns p v ⊎ ((entry_of one ≡ p) × Contains (triple_vars one) v))
one_more patterns one p v = (
  λ edge. elim (Contains-push_cases patterns one edge.pattern edge.among) as (λ _. HasEdge patterns p v ⊎ ((entry_of one ≡ p) × Contains (triple_vars one) v)) [
    | inl before ↦ inl (record { pattern = edge.pattern; among = before; entry = edge.entry; has = edge.has })
    | inr is ↦ inr (ap entry_of is ∙ edge.entry, subst (λ pattern. Contains (triple_vars pattern) v) (sym is) edge.has)
  ],
  λ either. elim either as (λ _. HasEdge (patterns ++ one ∷ []) p v) [
    | inl edge ↦ record { pattern = edge.pattern; among = Contains-append_left patterns (one ∷ []) edge.pattern edge.among; entry = edge.entry; has = edge.has }
    | inr own ↦ record { pattern = one; among = Contains-push patterns one; entry = own.0; has = own.1 }
  ],
)

-- a set with the variables of a word more
more_variables : (sets : List ℕ) (place word p v : ℕ) → place < length sets →
    PatternHas (set sets place (bit_or (slice_index sets place) word)) p v ↔ (PatternHas sets p v ⊎ ((place ≡ p) × HasVariable word v))
more_variables sets place word p v low = elim (cases_eq p place) as (λ _. PatternHas (set sets place (bit_or (slice_index sets place) word)) p v ↔ (PatternHas sets p v ⊎ ((place ≡ p) × HasVariable word v))) [
  | inl is ↦
      let here = get_or-set_same sets place (bit_or (slice_index sets place) word) 0 low in
      let either = HasVariable-or (slice_index sets place) word v in
      subst (λ p. PatternHas (set sets place (bit_or (slice_index sets place) word)) p v ↔ (PatternHas sets p v ⊎ ((place ≡ p) × HasVariable word v))) (sym is) (
        λ has. elim (either.0 (subst (λ set. HasVariable set v) here has)) as (λ _. PatternHas sets place v ⊎ ((place ≡ place) × HasVariable word v)) [ inl old ↦ inl old | inr new ↦ inr (refl, new) ],
        λ has. subst (λ set. HasVariable set v) (sym here) (either.1 (elim has as (λ _. HasVariable (slice_index sets place) v ⊎ HasVariable word v) [ inl old ↦ inl old | inr new ↦ inr new.1 ])),
      )
  | inr other ↦
      let there = get_or-set_other sets place p (bit_or (slice_index sets place) word) 0 other in (
        λ has. inl (subst (λ set. HasVariable set v) there has),
        λ has. elim has as (λ _. PatternHas (set sets place (bit_or (slice_index sets place) word)) p v) [ inl old ↦ subst (λ set. HasVariable set v) (sym there) old | inr new ↦ absurd (other (sym new.0)) ],
      )
]

-- the sets of some triple patterns
abbrev pub AreSetsAmong : List TriplePat → List ℕ → Type 0
AreSetsAmong patterns sets = (p v : ℕ) → PatternHas sets p v ↔ HasEdge patterns p v

-- empty sets are those of no triple pattern
pub sets_start : (sets : List ℕ) → ((p : ℕ) → slice_index sets p ≡ 0) → AreSetsAmong [] sets
sets_start sets none p v = (λ has. absurd (HasVariable-zero v (subst (λ set. HasVariable set v) (none p) has)), λ edge. absurd (no_edge p v edge))

-- and with the variables of one more they are those of one more
pub sets_more : (patterns : List TriplePat) (i : ℕ) (one : TriplePat) (sets : List ℕ) (place word : ℕ) → AreSetsAmong (take i patterns) sets → i < length patterns → get_or patterns i one ≡ one →
    entry_of one ≡ place → HoldsJust word (triple_vars one) → place < length sets → AreSetsAmong (take (i + 1) patterns) (set sets place (bit_or (slice_index sets place) word))
sets_more patterns i one sets place word are within is entry just low p v =
    let front : take (i + 1) patterns ≡ take i patterns ++ one ∷ [] = take_more patterns i one within ∙ ap (λ x. take i patterns ++ x ∷ []) is in
    let more = more_variables sets place word p v low in
    let edges = one_more (take i patterns) one p v in
    let both : PatternHas (set sets place (bit_or (slice_index sets place) word)) p v ↔ HasEdge (take i patterns ++ one ∷ []) p v = (
      λ has. edges.1 (elim (more.0 has) as (λ _. HasEdge (take i patterns) p v ⊎ ((entry_of one ≡ p) × Contains (triple_vars one) v)) [ inl old ↦ inl ((are p v).0 old) | inr new ↦ inr (entry ∙ new.0, (just v).0 new.1) ]),
      λ edge. more.1 (elim (edges.0 edge) as (λ _. PatternHas sets p v ⊎ ((place ≡ p) × HasVariable word v)) [ inl old ↦ inl ((are p v).1 old) | inr new ↦ inr (sym entry ∙ new.0, (just v).1 new.1) ]),
    ) in
    subst (λ patterns. PatternHas (set sets place (bit_or (slice_index sets place) word)) p v ↔ HasEdge patterns p v) (sym front) both

-- sets without those past the last place are the same
pub sets_cut : (sets : List ℕ) (n p v : ℕ) → (PatternHas sets p v → p < n) → PatternHas (take n sets) p v ↔ PatternHas sets p v
sets_cut sets n p v last = elim (cases_lt p n) as (λ _. PatternHas (take n sets) p v ↔ PatternHas sets p v) [
  | inl low ↦
      let here = get_or-take n sets p 0 low in
      (λ has. subst (λ set. HasVariable set v) here has, λ has. subst (λ set. HasVariable set v) (sym here) has)
  | inr past ↦ (
    λ has. absurd (HasVariable-zero v (subst (λ set. HasVariable set v) (get_or_past (take n sets) p 0 (let short = length-take n sets in omega arith)) has)),
    λ has. let low = last has in absurd (omega arith),
  )
]

-- the edges of some triple patterns, and those of one more
pub edges_push : (patterns : List TriplePat) (one : TriplePat) → edges_of (patterns ++ one ∷ []) ≡ edges_of patterns ++ pattern_edges one
edges_push patterns one = flat_map-append pattern_edges patterns (one ∷ []) ∙ ap (λ list. edges_of patterns ++ list) (append-nil (pattern_edges one))

-- no set at first
pub empty_sets : (p : ℕ) → slice_index (replicate 256 0) p ≡ 0
empty_sets p = elim (cases_lt p 256) as (λ _. slice_index (replicate 256 0) p ≡ 0) [
  | inl low ↦ get_or-replicate 256 p 0 0 low
  | inr past ↦ get_or_past (replicate 256 0) p 0 (omega (arith, length-replicate {A = ℕ} 256 0))
]

-- the places of the edges are below the last number
pub edge_below : (patterns : List TriplePat) (last p v : ℕ) → All IsPlaced patterns → ((pattern : TriplePat) → Contains patterns pattern → pattern.number ≤ last) → HasEdge patterns p v → p < last
edge_below patterns last p v placed low edge =
    let some = (All-contains IsPlaced patterns edge.pattern placed edge.among).some in
    let entry = edge.entry in
    omega (arith, low edge.pattern edge.among)

-- a last number that one more triple pattern does not pass
pub last_more : (patterns : List TriplePat) (i : ℕ) (one : TriplePat) (last more : ℕ) → ((pattern : TriplePat) → Contains (take i patterns) pattern → pattern.number ≤ last) → i < length patterns → get_or patterns i one ≡ one →
    last ≤ more → one.number ≤ more → (pattern : TriplePat) → Contains (take (i + 1) patterns) pattern → pattern.number ≤ more
last_more patterns i one last more low within is further own pattern at =
    let front : take (i + 1) patterns ≡ take i patterns ++ one ∷ [] = take_more patterns i one within ∙ ap (λ x. take i patterns ++ x ∷ []) is in
    elim (Contains-push_cases (take i patterns) one pattern (subst (λ list. Contains list pattern) front at)) as (λ _. pattern.number ≤ more) [
      | inl before ↦ omega (arith, low pattern before)
      | inr same ↦ omega (arith, ap (λ (p : TriplePat). p.number) same)
    ]

-- edges are within the limits
var_low : (place : Place) (v : ℕ) → PlaceFits place → Contains (place_vars place) v → v < 64
var_low (places.Var var) v fits at = let is = Contains-single var.0 v at in omega (arith, fits)
var_low (places.Term text) v fits at = absurd (Contains-nil v at)

pub low_edge : (patterns : List TriplePat) (p v : ℕ) → All IsPlaced patterns → HasEdge patterns p v → (p < 256) × (v < 64)
low_edge patterns p v placed edge =
    let one = edge.pattern in
    let here = All-contains IsPlaced patterns one placed edge.among in
    let s = place_vars one.subject in
    let q = place_vars one.predicate in
    let o = place_vars one.object in
    let entry = edge.entry in (
      omega (arith, here.low, here.some),
      elim (Contains-append_cases (s ++ q) o v edge.has) as (λ _. v < 64) [
        | inl before ↦ elim (Contains-append_cases s q v before) as (λ _. v < 64) [
          | inl at ↦ var_low one.subject v here.fits.subject at
          | inr at ↦ var_low one.predicate v here.fits.predicate at
        ]
        | inr at ↦ var_low one.object v here.fits.object at
      ],
    )
