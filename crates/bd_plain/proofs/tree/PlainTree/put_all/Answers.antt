use Rattle.std.proofs.Common.{◌≡◌, [], rules, sym, ap, ◌∙◌, ◌++◌}
use Rattle.std.specs.FinMap.{from_entries, entries}
use Rattle.bd_model.specs.Tree.{Tree, path_cmp}
use Rattle.bd_model.proofs.TreeGets.{Entries}
use Rattle.bd_plain.proofs.TreeViews.{put_all_none, put_all_more}
use Rattle.bd_plain.proofs.tree.PlainTree.put_all.Goals as goal

pub loop-last-preserved : goal.loop-last-preserved
loop-last-preserved c =
    ap (λ (t : Tree). from_entries {R = path_cmp} (c.pop.new.self.items ++ entries t)) c.in_ok-put.ensures.ok
    ∙ sym (put_all_more c.pop.new.self.items c.in-Some.last c.loop-last.self)
    ∙ ap (λ (es : Entries). from_entries {R = path_cmp} (es ++ entries c.loop-last.self)) (sym c.in-Some.ensures.items)
    ∙ c.loop-last.invariant

pub returns : goal.returns
returns c =
    let none : c.loop-last.placed.items ≡ [] = search rules in
    sym (ap (λ (es : Entries). from_entries {R = path_cmp} (es ++ entries c.loop-last.self)) none ∙ put_all_none c.loop-last.self) ∙ c.loop-last.invariant
