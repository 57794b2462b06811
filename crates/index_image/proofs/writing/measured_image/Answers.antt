use Rattle.std.proofs.Common.{◌≡◌, ℕ, ◌+◌, List, ◌++◌, length, take, drop, ap, ◌∙◌, arith}
use Rattle.index_file.specs.Image.{layout_of}
use Rattle.index_file.specs.Version.{version_of, numbering_bytes}
use Rattle.index_image.proofs.MeasureLaws.{headed, length-tables, size-numbering}
use Rattle.index_image.proofs.writing.measured_image.Goals as goal

room : (c : goal.After-len) → length c.resize.new.self.items ≡ 44
room c = omega (arith, c.in_ok-resize.ensures.len)

long : (c : goal.After-len) → length c.in_ok-image.image.items ≡ length (numbering_bytes c.args.form c.args.numbers.now)
long c = ap length c.in_ok-image.ensures ∙ length-tables c.args.form c.args.numbers.now c.resize.new.self.items (room c)

pub overflow_cast-len : goal.overflow_cast-len
overflow_cast-len c = omega (arith, c.len.ensures, long c, c.requires.lengths.short)

pub head-requires-clause-size : goal.head-requires-clause-size
head-requires-clause-size c = omega (arith, c.len.ensures, long c, size-numbering c.args.form c.args.numbers.now)

pub returns : goal.returns
returns c =
    let l = layout_of (version_of c.args.form) c.args.form c.args.numbers.now in
    let image = c.in_ok-image.image.items in
    let front = c.resize.new.self.items in
    let room : length front ≡ 44 = omega (arith, c.in_ok-resize.ensures.len) in
    let four : length c.in_ok-head.head.items ≡ 44 = omega (arith, c.in_ok-head.ensures.len) in
    c.shrink_to_fit.ensures.items ∙ c.overwrite.ensures
    ∙ ap (λ (h : List ℕ). take 0 image ++ (h ++ drop (0 + length h) image)) c.deref.ensures.value
    ∙ headed l front image c.in_ok-head.head.items room c.in_ok-image.ensures c.in_ok-head.ensures.head four
