-- Worked examples of the definitions.
use Rattle.std.proofs.Common.{◌≡◌, ℕ, true, false, Some, refl, List, [], ◌∷◌}
use Rattle.std.specs.Prelude.{codes}
use Rattle.bm_term.specs.Kept.{after_all}
use Rattle.bm_term.specs.declared.triple.Triple.{Triple}
use Rattle.term_numbers.specs.Sights.{first_sights, nothing_yet}

triple_on : List ℕ → Triple
triple_on object = record { subject = codes "<a>"; predicate = codes "<p>"; object = object }

-- a repeated triple counts where it came first
repeat_counts_once : first_sights (triple_on (codes "<c>") ∷ triple_on (codes "<b>") ∷ triple_on (codes "<c>") ∷ []) ≡ triple_on (codes "<c>") ∷ triple_on (codes "<b>") ∷ []
unfolding triple_on
repeat_counts_once = refl

-- two triples are within a limit of two, whatever is repeated
two_are_kept : after_all (nothing_yet 2) (triple_on (codes "<c>") ∷ triple_on (codes "<b>") ∷ triple_on (codes "<c>") ∷ [])
    ≡ record { list = triple_on (codes "<c>") ∷ triple_on (codes "<b>") ∷ []; limit = Some 2; were_more = false }
unfolding triple_on
two_are_kept = refl

-- a third is one too many, and then nothing changes
third_is_marked : after_all (nothing_yet 2) (triple_on (codes "<c>") ∷ triple_on (codes "<b>") ∷ triple_on (codes "<d>") ∷ triple_on (codes "<e>") ∷ [])
    ≡ record { list = triple_on (codes "<c>") ∷ triple_on (codes "<b>") ∷ []; limit = Some 2; were_more = true }
unfolding triple_on
third_is_marked = refl
