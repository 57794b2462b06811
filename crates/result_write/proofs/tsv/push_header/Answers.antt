use Rattle.std.proofs.Common.{◌++◌, ◌∷◌, [], ◌==◌, if◌then◌else◌, ◌∙◌, sym, ap, refl, List, ℕ, string_bytes}
use Rattle.std.specs.List.{join_with_byte}
use Rattle.std.proofs.lemmas.Option.{slice_get_read}
use Rattle.result_write.specs.Tsv.{question_mark}
use Rattle.result_write.proofs.Joined.{join-take_more, line_done, map_twice}
use Rattle.result_write.proofs.tsv.push_header.Goals as goal

pub loop-i-preserved : goal.loop-i-preserved
loop-i-preserved c =
    let name = c.index-names-i.result in
    let here = λ (bytes : List ℕ). if c.loop-i.i == 0 then question_mark ∷ bytes else 9 ∷ question_mark ∷ bytes in
    c.in_ok-push_name.ensures ∙ ap (λ (bytes : List ℕ). c.loop-i.text.items ++ here bytes) c.as_str.ensures.value
    ∙ ap (λ (text : List ℕ). text ++ here (string_bytes name)) c.loop-i.invariant
    ∙ join-take_more 9 c.args.text.now.items (λ name. question_mark ∷ string_bytes name) c.args.names.now c.loop-i.i name (slice_get_read c.args.names.now _ c.loop-i.i name refl c.loop-i-test.true c.index-names-i.is)

pub returns : goal.returns
returns c =
    line_done 9 10 c.args.text.now.items c.loop-i.text.items c.push.new.self.items (λ name. question_mark ∷ string_bytes name) c.args.names.now c.loop-i.i c.loop-i-test.false c.loop-i.invariant c.in_ok-push.ensures.items
    ∙ ap (λ (parts : List (List ℕ)). c.args.text.now.items ++ (join_with_byte 9 parts ++ 10 ∷ [])) (sym (map_twice (λ name. question_mark ∷ name) string_bytes c.args.names.now))
