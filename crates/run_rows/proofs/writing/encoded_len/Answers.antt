use Rattle.std.proofs.Common.{◌-◌, ◌^◌, ap, length, arith}
use Rattle.run_rows.specs.Runs.{runs_of}
use Rattle.run_rows.proofs.ByteLaws.{length-flat_map-run_bytes}
use Rattle.run_rows.proofs.EncodingLaws.{bytes_of_row, length-runs_of, length-row-le}
use Rattle.run_rows.proofs.writing.encoded_len.Goals as goal

pub overflow_mul-result : goal.overflow_mul-result
overflow_mul-result c =
    omega (arith, length-runs_of c.args.numbers.now, length-row-le (2 ^ 32 - 1) c.args.numbers.now c.requires)

pub returns : goal.returns
returns c =
    omega (arith, ap length (bytes_of_row c.args.form c.args.numbers.now), length-flat_map-run_bytes (runs_of c.args.numbers.now))
