use Rattle.std.proofs.Common.{◌≡◌, ℕ, ◌-◌, List, ◌++◌, length, ap, ◌∙◌, arith}
use Rattle.byte_tables.specs.Numbers.{number_bytes}
use Rattle.index_file.specs.Image.{layout_of}
use Rattle.index_file.specs.Layout.{name, head_numbers}
use Rattle.index_file.specs.Version.{version_of}
use Rattle.index_image.specs.steps.Measuring.{slice_part_of}
use Rattle.index_image.proofs.MeasureLaws.{head_is, head_numbers-are, size-numbering, length-numbering_bytes}
use Rattle.index_image.proofs.writing.head.Goals as goal

both : (c : goal.In_ok-push_numbers)
    → (c.push_numbers.new.out.items ≡ name ++ number_bytes (head_numbers (layout_of (version_of c.args.form) c.args.form c.args.numbers.now))) × (length c.push_numbers.new.out.items ≡ 44)
unfolding name
both c =
    let form = c.args.form in
    let n = c.args.numbers.now in
    let begun : c.extend_from_slice.new.self.items ≡ name = c.in_ok-extend_from_slice.ensures.items ∙ ap (λ (h : List ℕ). h ++ name) c.in_ok-head.ensures.items in
    let slices : c.args.size - c.args.lengths.slices_at ≡ length (slice_part_of form n) = omega (arith, c.requires.size, size-numbering form n, length-numbering_bytes form n, c.requires.lengths.slices_at) in
    head_is form n c.extend_from_slice.new.self.items c.push_numbers.new.out.items _ begun
    (head_numbers-are form n _ _ _ _ _ _ _ _ _ c.version_of.ensures c.shared.ensures c.subjects.ensures c.objects.ensures c.predicates.ensures c.triples.ensures c.requires.lengths.texts slices c.requires.size)
    c.in_ok-push_numbers.ensures.written

pub returns-clause-head : goal.returns-clause-head
returns-clause-head c = (both c).0

pub returns-clause-len : goal.returns-clause-len
returns-clause-len c = omega (arith, (both c).1)
