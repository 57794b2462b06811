use Rattle.std.proofs.Common.{ℕ, List, ◌++◌, length, map, ap, ◌∙◌, arith}
use Rattle.byte_tables.specs.Numbers.{number_bytes}
use Rattle.byte_tables.specs.Pieces.{joined, starts_of}
use Rattle.term_numbers.specs.Numbering.{term_table}
use Rattle.index_file.specs.Image.{all_pairs, pair_slice, layout_of}
use Rattle.index_file.specs.Version.{version_of}
use Rattle.index_image.specs.steps.Writing.{Writing}
use Rattle.index_image.proofs.MeasureLaws.{length-numbering_bytes, table_written, tables-append}
use Rattle.index_image.proofs.writing.push_tables.Goals as goal

pub push_texts-requires-clause-few : goal.push_texts-requires-clause-few
push_texts-requires-clause-few c = omega (arith, length-numbering_bytes c.args.form c.args.numbers.now, c.requires.short)

pub push_texts-requires-clause-short : goal.push_texts-requires-clause-short
push_texts-requires-clause-short c =
    omega (arith, ap (λ (w : Writing). length w.pieces) c.in_ok-texts.ensures, length-numbering_bytes c.args.form c.args.numbers.now, c.requires.short)

pub push_families-requires-clause-short : goal.push_families-requires-clause-short
push_families-requires-clause-short c =
    omega (arith, ap (λ (w : Writing). length w.pieces) c.in_ok-slices.ensures, length-numbering_bytes c.args.form c.args.numbers.now, c.requires.short)

pub returns : goal.returns
returns c =
    let n = c.args.numbers.now in
    let l = layout_of (version_of c.args.form) c.args.form n in
    let texts = table_written c.args.bytes.items c.finish.result.items c.in_ok-texts.texts c.push_texts.new.into c.text_count.result (term_table n.terms) c.in_ok-texts.ensures c.in_ok-push_texts.ensures c.finish.ensures in
    let slices = table_written c.finish.result.items c.finish-2.result.items c.in_ok-slices.slices c.push_families.new.into c.slice_count.result (map (pair_slice c.args.form) (all_pairs n)) c.in_ok-slices.ensures c.in_ok-push_families.ensures c.finish-2.ensures in
    slices ∙ ap (λ (front : List ℕ). front ++ (number_bytes (starts_of l.slices) ++ joined l.slices)) texts ∙ tables-append c.args.bytes.items l
