use Rattle.std.proofs.Common.{ℕ, drop, ap, ◌∙◌, arith}
use Rattle.std.proofs.lemmas.List.{take_rest}
use Rattle.byte_tables.specs.Pairs.{pairs_in}
use Rattle.byte_tables.proofs.PairLaws.{pair_read, pairs_in-pair_bytes}
use Rattle.byte_tables.proofs.pairs.first_pair.Goals as goal

pub returns-clause-spelled : goal.returns-clause-spelled
returns-clause-spelled c =
    let second-is = rw (take_rest c.args.bytes.now 4) at c.read_u32-2.ensures in
    pair_read c.args.bytes.now _ c.requires (λ i. omega (arith, c.type_inv.bytes i)) (omega arith) (omega (arith, second-is))

pub returns-clause-first : goal.returns-clause-first
returns-clause-first c =
    let p : ℕ × ℕ = (c.read_u32.result, c.read_u32-2.result) in
    ap pairs_in (returns-clause-spelled c) ∙ pairs_in-pair_bytes p (drop 8 c.args.bytes.now) c.read_u32.type_inv c.read_u32-2.type_inv
