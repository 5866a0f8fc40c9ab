use Rattle.std.proofs.Common.{◌≡◌, ℕ, List, true, sym, subst, ◌∙◌}
use Rattle.bd_message.specs.Effect.{begins}
use Rattle.bd_message.proofs.Freed.{freed_apart}
use Rattle.bd_message.proofs.message.Message.free.Goals as goal

pub returns-then-is_apart : goal.returns-then-is_apart
returns-then-is_apart c = sym (freed_apart c.args.s.now c.stem.result.now c.args.self.now c.stem.ensures (sym c.is_apart.ensures ∙ c.if-is_apart.true))

pub strip-requires : goal.strip-requires
strip-requires c = subst (λ (k : List ℕ). begins k c.args.s.now ≡ true) c.stem-2.ensures (sym c.starts_with.ensures.value ∙ c.if-starts_with.true)
