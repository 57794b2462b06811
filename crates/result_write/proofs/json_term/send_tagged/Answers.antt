use Rattle.std.proofs.lemmas.Result.{on_ok_weaker}
use Rattle.result_write.proofs.json_term.send_tagged.Goals as goal

pub returns : goal.returns
returns g c =
    let first = c.in_ok-send_string.ensures in
    let second = c.in_ok-send_string-2.ensures in
    let third = c.in_ok-send_string-3.ensures in
    on_ok_weaker c.end_map.result (λ end. (
      g.S.Serializer.written c.begin_map.new.self,
      c.in_ok-begin_map.ensures,
      (
        first.named,
        g.S.Serializer.written c.send_string.new.out,
        first.key,
        first.string,
        (
          second.named,
          g.S.Serializer.written c.send_string-2.new.out,
          second.key,
          second.string,
          (third.named, g.S.Serializer.written c.send_string-3.new.out, third.key, third.string, end),
        ),
      ),
    )) c.end_map.ensures
