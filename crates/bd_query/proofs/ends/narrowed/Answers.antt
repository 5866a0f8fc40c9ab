use Rattle.std.proofs.Common.{subst, List, ℕ, Option}
use Rattle.bd_node.specs.Touching.{CanTouch}
use Rattle.bd_query.proofs.EndLemmas.{later_end, later_bound, later_untouched}
use Rattle.bd_query.proofs.ends.narrowed.Goals as goal

pub returns-in_ok-first_key-clause-end : goal.returns-in_ok-first_key-clause-end
returns-in_ok-first_key-clause-end c =
    later_end c.args.message.now c.args.key.now c.args.end c.in_ok-first_key.field-0
    (record { message = c.requires.message; other = c.requires.other; can = subst (λ (e : Option (List ℕ)). CanTouch c.args.message.now c.args.key.now e) c.as_slice.ensures (c.can_touch.ensures.0 c.if-can_touch.true); first_is = c.in_ok-first_key.ensures })

pub returns-in_ok-first_key-clause-within : goal.returns-in_ok-first_key-clause-within
returns-in_ok-first_key-clause-within c =
    later_bound c.args.message.now c.args.key.now c.args.end c.in_ok-first_key.field-0
    (record { message = c.requires.message; other = c.requires.other; can = subst (λ (e : Option (List ℕ)). CanTouch c.args.message.now c.args.key.now e) c.as_slice.ensures (c.can_touch.ensures.0 c.if-can_touch.true); first_is = c.in_ok-first_key.ensures })

pub returns-in_ok-first_key-clause-untouched : goal.returns-in_ok-first_key-clause-untouched
returns-in_ok-first_key-clause-untouched c =
    later_untouched c.args.message.now c.args.key.now c.args.end c.in_ok-first_key.field-0
    (record { message = c.requires.message; other = c.requires.other; can = subst (λ (e : Option (List ℕ)). CanTouch c.args.message.now c.args.key.now e) c.as_slice.ensures (c.can_touch.ensures.0 c.if-can_touch.true); first_is = c.in_ok-first_key.ensures })
