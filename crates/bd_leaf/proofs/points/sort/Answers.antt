use Rattle.std.proofs.Common.{rules}
use Rattle.std.proofs.lemmas.List.Sorted.{answers_always}
use Rattle.bd_message.proofs.Finds.{on_ok}
use Rattle.bd_leaf.proofs.Sorts.{comes_before, ranks, sorted_points}
use Rattle.bd_leaf.proofs.points.sort.Goals as goal

pub returns : goal.returns
returns c =
    on_ok c.sort_by.result
    (λ sorted. sorted_points c.args.points.now.items c.sort_by.new.self.items c.requires c.sort_by.ensures.permutation (sorted comes_before ranks (answers_always _ _ _ (λ f a r g h. search rules))) (c.sort_by.ensures.stable comes_before ranks (answers_always _ _ _ (λ f a r g h. search rules))))
    c.sort_by.ensures.sorted
