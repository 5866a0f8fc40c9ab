use Rattle.std.proofs.Common.{◌≡◌, ◌++◌, List, ℕ, Option, Some, Result, Ok, Err, sym, ap, subst, ◌∙◌, append_assoc}
use Rattle.std.specs.Result.{IfOk}
use Rattle.std.specs.declared.alloc.AllocError.{AllocError}
use Rattle.bd_stream.specs.declared.head.Head.{Head}
use Rattle.bd_stream.specs.declared.exporting.Next.{Next}
use Rattle.bd_stream.specs.Heads.{head_bytes}
use Rattle.bd_stream.specs.Exporting.{Export, Move, put, magic_before, after_head, looked_at, head_in}
use Rattle.bd_stream.specs.Answering.{Goes, seen}
use Rattle.bd_stream.proofs.exporter.Exporter.looked_at.Goals as goal

-- what was written before is written first
goes_after : (r : Result Next AllocError) (s : Export) (had mid has bytes : List ℕ) (m : Move) → mid ≡ had ++ bytes → IfOk r (λ next. Goes s next mid has m) → IfOk r (λ next. Goes s next had has (put bytes m))
goes_after (Ok next) s had mid has bytes m first then =
    record {
      can = then.can;
      state = then.state;
      written = then.written ∙ ap (λ (l : List ℕ). l ++ m.1) first ∙ append_assoc had bytes m.1;
    }
goes_after (Err e) s had mid has bytes m first then = tt

pub returns : goal.returns
returns c =
    let s = seen c.args.self.now in
    let head = c.in-Some.head in
    let had = c.args.written.now.items in
    let has = c.after_head.new.written.items in
    let found : head_in c.args.self.now.place.below c.args.reply.now ≡ Some head = sym c.in_ok-head.ensures.head ∙ c.in-Some.is in
    let goes = goes_after c.after_head.result s had c.put_head.new.written.items has (magic_before head.path ++ head_bytes head) (after_head s head.len) c.in_ok-put_head.ensures c.after_head.ensures in
    subst (λ (o : Option Head). IfOk c.after_head.result (λ next. Goes s next had has (looked_at s o))) (sym found) goes
