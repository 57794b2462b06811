use Rattle.std.proofs.Common.{ap, ◌∙◌, ◌++◌, ◌∷◌, []}
use Rattle.term_numbers.proofs.TableLaws.{IsTextTable-push, IsPushed}
use Rattle.term_numbers.proofs.table.Table.push.Goals as goal

pushed : (c : goal.In_ok-push) → IsPushed c.self.inside.starts.items c.self.inside.bytes.items c.bytes.result.now c.push.new.self.items c.extend_from_slice.new.self.items
pushed c = IsTextTable-push _ _ c.bytes.result.now _ _ c.self.invariant (∣ c.bytes.ensures.canonical ∣₁) c.in_ok-extend_from_slice.ensures.items (cc (c.in_ok-push.ensures.items, c.in_ok-reserve.ensures.items, c.len.ensures))

pub invariant_of-self-2 : goal.invariant_of-self-2
invariant_of-self-2 c = (pushed c).table

pub returns : goal.returns
returns c = (pushed c).texts ∙ ap (λ l. l ++ c.bytes.result.now ∷ []) c.self.view_is ∙ ap (λ t. c.args.self.now ++ t ∷ []) c.bytes.ensures.text
