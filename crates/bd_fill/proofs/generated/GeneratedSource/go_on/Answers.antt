-- The next line is what was left.
use Rattle.std.proofs.Common.{arith, subst, sym}
use Rattle.bd_fill.specs.Scripts.{unread}
use Rattle.bd_fill.proofs.Unread.{unread_next}
use Rattle.bd_fill.proofs.generated.GeneratedSource.go_on.Goals as goal

pub returns-clause-left : goal.returns-clause-left
returns-clause-left c =
    let self = c.args.self.now in
    rw c.in_ok-self.ensures.script
    (unread_next self.line.items c.in_ok-self.field-0.items self.at self.next self.lines (omega arith) (omega arith) c.in_ok-self.ensures.line)
