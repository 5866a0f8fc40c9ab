use Rattle.std.proofs.Common.{◌≡◌, ℕ, ◌+◌, ◌-◌, ◌<◌, ◌≤◌, List, [], ◌∷◌, ◌++◌, length, subst, sym, ap, ◌∙◌, arith}
use Rattle.std.specs.Prelude.{Option}
use Rattle.std.specs.Option.{option_copied, option_to_list}
use Rattle.std.specs.List.{sum_by}
use Rattle.std.proofs.lemmas.List.{append-nil}
use Rattle.bd_limits.specs.Limits.{batch_limit}
use Rattle.bd_message.specs.declared.message.Message.{Message}
use Rattle.bd_message.specs.Messages.{size}
use Rattle.bd_inner.specs.Batches.{IsPart, IsMoved}
use Rattle.bd_inner.proofs.Moved.{moved_more, part_more, sum_push, batch_all, batch_part}
use Rattle.bd_inner.proofs.batches.oldest.Goals as goal
use Rattle.bd_inner.proofs.batches.oldest.Goals.{in-Some+else-size+in_ok-push, in_default}

pub loop-count-preserved : goal.loop-count-preserved
loop-count-preserved c =
    elim c.match-branch-2.branch [
      | in-Some+else-size+in_ok-push w ↦
          let items_is : c.match-branch-2.messages.items ≡ c.loop-count.messages.items ++ w.in-Some.message ∷ [] = ap (λ v. v.items) w.messages-is ∙ w.in_ok-push.ensures.items in
          let one = subst (λ (o : Option Message). IsMoved c.args.edge.now (option_copied c.args.hi) (c.index-list-count.result ∷ []) (option_to_list o)) w.in-Some.is c.in_ok-message.ensures.moved in
          let part = subst (λ (o : Option Message). IsPart c.args.edge.now (option_copied c.args.hi) c.index-list-count.result (option_to_list o)) w.in-Some.is c.in_ok-message.ensures.part in
          let sum : sum_by size c.match-branch-2.messages.items ≡ sum_by size c.loop-count.messages.items + size w.in-Some.message = sum_push c.loop-count.messages.items c.match-branch-2.messages.items w.in-Some.message items_is in
          let before : c.loop-count.size ≡ sum_by size c.loop-count.messages.items = c.loop-count.invariant.size_is in
          let most : c.loop-count.size ≤ batch_limit = c.loop-count.invariant.fits in
          let fits : w.size.result ≤ batch_limit - c.loop-count.size = w.if-size.false in
          let is : c.match-branch-2.size ≡ c.loop-count.size + w.size-size.result = w.size-is in
          let size_1 : w.size.result ≡ size w.in-Some.message = w.size.ensures in
          let size_2 : w.size-size.result ≡ size w.in-Some.message = w.size-size.ensures in
          record {
            parts = part_more c.args.edge.now (option_copied c.args.hi) c.args.list.now c.loop-count.messages.items c.match-branch-2.messages.items (w.in-Some.message ∷ []) c.loop-count.count c.index-list-count.result c.loop-count-test.true c.index-list-count.is c.loop-count.invariant.parts part items_is;
            moved = moved_more c.args.edge.now (option_copied c.args.hi) c.args.list.now c.loop-count.messages.items c.match-branch-2.messages.items (w.in-Some.message ∷ []) c.loop-count.count c.index-list-count.result c.loop-count-test.true c.index-list-count.is c.loop-count.invariant.moved one items_is;
            size_is = omega arith;
            fits = omega arith;
          }
      | in_default w ↦
          let items_is : c.match-branch-2.messages.items ≡ c.loop-count.messages.items = ap (λ v. v.items) w.messages-is in
          let none = subst (λ (o : Option Message). IsMoved c.args.edge.now (option_copied c.args.hi) (c.index-list-count.result ∷ []) (option_to_list o)) w.in_default.is c.in_ok-message.ensures.moved in
          let part = subst (λ (o : Option Message). IsPart c.args.edge.now (option_copied c.args.hi) c.index-list-count.result (option_to_list o)) w.in_default.is c.in_ok-message.ensures.part in
          record {
            parts = part_more c.args.edge.now (option_copied c.args.hi) c.args.list.now c.loop-count.messages.items c.match-branch-2.messages.items [] c.loop-count.count c.index-list-count.result c.loop-count-test.true c.index-list-count.is c.loop-count.invariant.parts part (items_is ∙ sym (append-nil c.loop-count.messages.items));
            moved = moved_more c.args.edge.now (option_copied c.args.hi) c.args.list.now c.loop-count.messages.items c.match-branch-2.messages.items [] c.loop-count.count c.index-list-count.result c.loop-count-test.true c.index-list-count.is c.loop-count.invariant.moved none (items_is ∙ sym (append-nil c.loop-count.messages.items));
            size_is = w.size-is ∙ c.loop-count.invariant.size_is ∙ ap (λ (l : List Message). sum_by size l) (sym items_is);
            fits = subst (λ (n : ℕ). n ≤ batch_limit) (sym w.size-is) c.loop-count.invariant.fits;
          }
    ]

pub returns : goal.returns
returns c =
    batch_all c.args.edge.now (option_copied c.args.hi) c.args.list.now c.loop-count.messages.items c.from_vec-2.result c.loop-count.count
    (let a : c.loop-count.count ≤ length c.args.list.now = c.loop-count.auto.count-end in let b : length c.args.list.now ≤ c.loop-count.count = c.loop-count-test.false in omega arith)
    c.from_vec-2.ensures c.loop-count.invariant.moved c.loop-count.invariant.parts (subst (λ (n : ℕ). n ≤ batch_limit) c.loop-count.invariant.size_is c.loop-count.invariant.fits)

pub returns-then-size : goal.returns-then-size
returns-then-size c =
    let before : c.loop-count.size ≡ sum_by size c.loop-count.messages.items = c.loop-count.invariant.size_is in
    let most : c.loop-count.size ≤ batch_limit = c.loop-count.invariant.fits in
    let over : batch_limit - c.loop-count.size < c.size.result = c.if-size.true in
    let is : c.size.result ≡ size c.in-Some.message = c.size.ensures in
    batch_part c.args.edge.now (option_copied c.args.hi) c.args.list.now c.loop-count.messages.items c.from_vec.result c.loop-count.count c.index-list-count.result c.in-Some.message c.in_ok-message.field-0 c.loop-count-test.true c.index-list-count.is c.from_vec.ensures c.loop-count.invariant.moved
    c.loop-count.invariant.parts (omega arith) c.in-Some.is c.in_ok-message.ensures.moved c.in_ok-message.ensures.part (omega arith)
