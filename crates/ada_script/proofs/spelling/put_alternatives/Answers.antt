use Rattle.std.proofs.lemmas.Result.{on_ok_weaker}
use Rattle.ada_script.proofs.Written.{alternatives_written}
use Rattle.ada_script.proofs.spelling.put_alternatives.Goals as goal

pub returns : goal.returns
returns c =
    on_ok_weaker c.put_tail.result (λ e. alternatives_written c.args.words.now.items c.put_tail.new.words.items c.put_choices.new.words.items c.args.choices.now
    c.args.tail.now c.is_empty.result c.is_empty.ensures c.in_ok-put_choices.ensures e) c.put_tail.ensures
