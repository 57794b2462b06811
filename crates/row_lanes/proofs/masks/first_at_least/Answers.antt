use Rattle.std.proofs.Common.{◌/◌, refl, arith}
use Rattle.std.proofs.lemmas.Nat.{and_le_l}
use Rattle.row_lanes.proofs.SetLaws.{Has-below_length}
use Rattle.row_lanes.proofs.LeastLaws.{IsRestOf-masked, IsRestOf-whole, IsLeastFrom-none, IsLeastFrom-lowest, rest_is_later}
use Rattle.row_lanes.proofs.masks.first_at_least.Goals as goal

pub returns-then-place-words : goal.returns-then-place-words
returns-then-place-words c =
    IsLeastFrom-none c.args.n c.args.words.now (λ x has from. omega (arith, Has-below_length c.args.words.now x has))

pub returns-then-word-ne0 : goal.returns-then-word-ne0
returns-then-word-ne0 c =
    let rest = IsRestOf-masked c.args.n c.args.words.now _ _ refl refl in
    let fits = c.type_inv.words (c.args.n / 64) in
    IsLeastFrom-lowest c.args.n c.args.words.now _ _ _ rest (omega (arith, fits, and_le_l)) (omega arith) (λ x has from. omega arith) c.least_of.ensures

pub returns-in_err-place : goal.returns-in_err-place
returns-in_err-place c =
    let words = c.args.words.now in
    let rest = IsRestOf-masked c.args.n words _ _ refl refl in
    rw c.from_residual.ensures (IsLeastFrom-none c.args.n words (λ x has from.
    omega (arith, Has-below_length words x has, rest_is_later c.args.n words _ _ rest c.if-word-ne0.false c.in_err-place.ensures x has from)))

pub returns : goal.returns
returns c =
    let words = c.args.words.now in
    let place = c.in_ok-place.place in
    let found = c.in_ok-place.ensures in
    let rest = IsRestOf-masked c.args.n words _ _ refl refl in
    IsLeastFrom-lowest c.args.n words place _ _ (IsRestOf-whole c.args.n words place (omega arith)) (omega (arith, c.type_inv.words place)) (omega arith) (rest_is_later c.args.n words _ _ rest c.if-word-ne0.false found.3) c.least_of-2.ensures
