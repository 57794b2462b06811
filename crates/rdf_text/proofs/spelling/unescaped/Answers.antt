use Rattle.std.proofs.Common.{◌++◌, ap, sym, ◌∙◌, append_assoc, append-nil}
use Rattle.rdf_text.specs.Spelling.{unescaped}
use Rattle.rdf_text.proofs.Unescaping.{unescaped-first, unescaped-nil, first_unescaped-none}
use Rattle.rdf_text.proofs.spelling.unescaped.Goals as goal

pub loop-byte-preserved : goal.loop-byte-preserved
loop-byte-preserved c =
    let step = unescaped-first c.loop-byte.rest.now c.in-Some.after.now c.in-Some.byte (sym c.in-Some.ensures) in
    rw (c.in_ok-push.ensures.items, append_assoc) (ap (λ bytes. c.loop-byte.form.items ++ bytes) (sym step) ∙ c.loop-byte.invariant)

pub returns : goal.returns
returns c =
    let ended = first_unescaped-none c.loop-byte.rest.now (sym c.in_default.ensures) in
    sym (append-nil c.loop-byte.form.items)
    ∙ ap (λ bytes. c.loop-byte.form.items ++ bytes) (sym (ap unescaped ended ∙ unescaped-nil))
    ∙ c.loop-byte.invariant
