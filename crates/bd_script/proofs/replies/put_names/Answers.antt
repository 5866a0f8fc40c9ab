-- Each name is written after those before it.
use Rattle.std.proofs.Common.{subst, arith}
use Rattle.std.proofs.lemmas.List.Elements.{All-more}
use Rattle.bd_script.specs.Replies.{IsNamed}
use Rattle.bd_script.proofs.OneLine.{names_text, names_length}
use Rattle.bd_script.proofs.replies.put_names.Goals as goal

pub loop-listed-preserved : goal.loop-listed-preserved
loop-listed-preserved c =
    let at = c.loop-listed.invariant in
    let l = c.listed-item.result in
    let long = names_length c.args.names.now c.loop-listed.listed-index l c.loop-listed-test.true c.listed-item.is in
    record {
      names = All-more IsNamed c.args.names.now c.loop-listed.listed-index l c.loop-listed-test.true at.names (subst IsNamed c.listed-item.is c.put_listed-end.ensures.name);
      text = names_text c.args.names.now c.loop-listed.listed-index l _ _ _ c.loop-listed-test.true c.listed-item.is at.text c.put_listed-end.ensures.text;
      end = omega (arith, at.end, c.put_listed-end.ensures.end, long);
      bound = omega (arith, at.bound, c.put_listed-end.ensures.bound);
    }
