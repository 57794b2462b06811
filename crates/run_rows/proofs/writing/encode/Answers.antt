use Rattle.std.proofs.Common.{ap, length, ◌∙◌, ◌++◌, arith}
use Rattle.run_rows.specs.Encoding.{row_bytes, row_numbers}
use Rattle.run_rows.proofs.EncodingLaws.{length-row_bytes-le, length-row_bytes-some, row_numbers-row_bytes}
use Rattle.run_rows.proofs.writing.encode.Goals as goal

pub returns-clause-read_back : goal.returns-clause-read_back
returns-clause-read_back c =
    let spelled = c.in_ok-append.ensures.written ∙ ap (λ xs. xs ++ row_bytes c.args.form c.args.numbers.now) c.new-row.ensures.items in
    ap (row_numbers c.args.form) spelled ∙ row_numbers-row_bytes c.args.form _ c.args.numbers.now (omega arith) c.requires

pub returns-clause-some : goal.returns-clause-some
returns-clause-some c =
    let spelled = c.in_ok-append.ensures.written ∙ ap (λ xs. xs ++ row_bytes c.args.form c.args.numbers.now) c.new-row.ensures.items in
    omega (arith, c.append.new.out.ok.0, ap length spelled, length-row_bytes-some c.args.form c.args.numbers.now c.requires.some)

pub returns-clause-short : goal.returns-clause-short
returns-clause-short c =
    let spelled = c.in_ok-append.ensures.written ∙ ap (λ xs. xs ++ row_bytes c.args.form c.args.numbers.now) c.new-row.ensures.items in
    omega (arith, c.append.new.out.ok.0, ap length spelled, length-row_bytes-le c.args.form c.args.numbers.now)
