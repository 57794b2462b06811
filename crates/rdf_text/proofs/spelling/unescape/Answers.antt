use Rattle.std.proofs.Common.{◌≡◌, ℕ, List, ◌∙◌, sym}
use Rattle.std.proofs.lemmas.Result.{IfOk-weaker}
use Rattle.std.specs.Str.{encode_utf8_all, IsUtf8}
use Rattle.rdf_text.specs.Spelling.{unescaped, SpellsForm}
use Rattle.rdf_text.proofs.Unescaping.{unescaped-body}
use Rattle.rdf_text.proofs.spelling.unescape.Goals as goal

pub returns-clause-utf8 : goal.returns-clause-utf8
returns-clause-utf8 c =
    let (lexical, spells) = c.requires in
    IfOk-weaker c.unescaped.result (λ form. form.items ≡ unescaped c.args.body.now) (λ form. IsUtf8 form.items)
    (λ form same. (lexical, (spells.characters, sym (same ∙ unescaped-body c.args.body.now lexical spells)))) c.unescaped.ensures

pub returns-clause-form : goal.returns-clause-form
returns-clause-form c =
    IfOk-weaker c.unescaped.result (λ form. form.items ≡ unescaped c.args.body.now) (λ form. (lexical : List ℕ) → SpellsForm c.args.body.now lexical → form.items ≡ encode_utf8_all lexical)
    (λ form same lexical spells. same ∙ unescaped-body c.args.body.now lexical spells) c.unescaped.ensures
