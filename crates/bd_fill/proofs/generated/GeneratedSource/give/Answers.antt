-- What is given of the line is taken from what is left.
use Rattle.std.proofs.Common.{◌+◌, take, drop, length, ap, ◌∙◌, arith, length-drop}
use Rattle.bd_fill.specs.Scripts.{unread}
use Rattle.bd_fill.proofs.Unread.{rest_whole, unread_taken}
use Rattle.bd_fill.proofs.generated.GeneratedSource.give.Goals as goal

pub returns-clause-left : goal.returns-clause-left
returns-clause-left c =
    let self = c.args.self.now in
    let n = c.copy_front-count.result in
    unread_taken self.line.items (take n c.copy_front-count.new.into) self.at n self.next self.lines
    (c.copy_front-count.ensures.bytes ∙ ap (take n) (rest_whole self.at c.deref.result.now) ∙ ap (λ bs. take n (drop self.at bs)) c.deref.ensures.value)
