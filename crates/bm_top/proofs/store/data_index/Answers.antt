use Rattle.std.proofs.Common.{ℕ, Option, refl, subst}
use Rattle.term_numbers.specs.Limits.{max_triples}
use Rattle.term_numbers.specs.Sights.{nothing_yet}
use Rattle.bm_top.specs.Pieces.{IsReadAs}
use Rattle.bm_top.specs.steps.Pieces.{WereRead}
use Rattle.bm_top.proofs.store.data_index.Goals as goal

pub returns-in-Some : goal.returns-in-Some
returns-in-Some g c bytes read =
    let P : Option ℕ → Type 0 = λ bad. IsReadAs bytes bad (nothing_yet max_triples) c.args.triples in
    record { number = c.in-Some.line; is_bad = subst P c.in-Some.is read; is_line = refl }

pub triples_index-requires : goal.triples_index-requires
triples_index-requires g c =
    let P : Option ℕ → Type 0 = λ bad. WereRead bad c.args.triples in
    subst P c.in-None.is c.requires

pub returns-in-None : goal.returns-in-None
returns-in-None g c bytes read =
    let P : Option ℕ → Type 0 = λ bad. IsReadAs bytes bad (nothing_yet max_triples) c.args.triples in
    c.triples_index.ensures bytes (subst P c.in-None.is read)
