use Rattle.std.proofs.Common.{refl, ◌∙◌}
use Rattle.bd_pager.proofs.FreshLemmas.{fresh_spots}
use Rattle.bd_pager.proofs.parts.Parts.fresh.Goals as goal

pub returns-clause-fresh : goal.returns-clause-fresh
returns-clause-fresh c = record {
  spots = fresh_spots c.new-spots.result c.insert.new.self _ c.in_ok-node.node c.new-spots.ensures.empty c.in_ok-insert.ensures.updates refl refl refl (c.in_ok-node.ensures.ok ∙ c.in_ok-childless_root.ensures);
  root = refl;
  size = refl;
  next = refl;
  saved = c.from_vec.ensures ∙ c.new-2.ensures.items;
  at = c.new-3.ensures.items;
  usage = c.in_ok-fresh_usage.ensures;
  cached = c.in_ok-new.ensures.empty;
  tails = c.in_ok-new-2.ensures;
}
