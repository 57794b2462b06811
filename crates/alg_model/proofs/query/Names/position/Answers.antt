use Rattle.std.proofs.Common.{ℕ, ◌==◌, ◌∙◌, List, ap, sym, string_bytes}
use Rattle.std.specs.Cmp.Lexicographic.{pointwise}
use Rattle.std.specs.List.{position}
use Rattle.alg_model.proofs.Places.{position-map}
use Rattle.alg_model.proofs.query.Names.position.Goals as goal

pub returns : goal.returns
returns c =
    let same = λ (met : List ℕ). pointwise ◌==◌ met c.args.name.now in
    c.position_of.ensures ∙ ap (λ names. position (λ met. same (string_bytes met)) names) c.deref.ensures.value
    ∙ sym (position-map string_bytes same c.self.inside.names.items)
    ∙ ap (position same) c.self.view_is
