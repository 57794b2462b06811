use Rattle.std.proofs.Common.{drop, ap, ◌∙◌, arith}
use Rattle.byte_tables.specs.Numbers.{numbers_in}
use Rattle.byte_tables.proofs.NumberLaws.{number_read, numbers_in-number}
use Rattle.byte_tables.proofs.numbers.first_number.Goals as goal

pub returns-clause-first : goal.returns-clause-first
returns-clause-first c =
    let n = c.read_u32.result in
    ap numbers_in (number_read c.args.bytes.now n c.requires (λ i. omega (arith, c.type_inv.bytes i)) (omega arith)) ∙ numbers_in-number n (drop 4 c.args.bytes.now) c.read_u32.type_inv
