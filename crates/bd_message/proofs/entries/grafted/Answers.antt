use Rattle.std.proofs.Common.{ap, ◌∙◌, ◌≡◌, List, not, rules}
use Rattle.std.specs.List.{filter}
use Rattle.bd_message.specs.Effect.{begins}
use Rattle.bd_message.proofs.Finds.{Entry, with_moved, grafted_kept, grafted_moved}
use Rattle.bd_message.proofs.entries.grafted.Goals as goal
use Rattle.bd_message.proofs.entries.grafted.Goals.{then-not-keep, else-not-keep}

pub returns : goal.returns
returns c = λ k.
    let s = c.args.s.now in
    let d = c.args.d.now in
    let es = c.args.entries.now in
    let both : ◌≡◌ {A = List Entry} c.append.new.self.items (with_moved s d es) = search rules in
    elim c.if-not-keep.branch [
      | then-not-keep w ↦ rw w.new-is (grafted_moved s d k c.args.keep es w.remove_under-then-not-keep.new.entries.items w.if-not-keep.true
          (w.remove_under-then-not-keep.ensures ∙ ap (filter (λ (e : Entry). not (begins e.0 s))) both))
      | else-not-keep w ↦ rw w.new-is (grafted_kept s d k c.args.keep es c.append.new.self.items w.if-not-keep.false both)
    ]
