use Rattle.std.proofs.Common.{List, ℕ, ◌-◌, length, drop, sym, ap, ◌∙◌, arith, length-drop}
use Rattle.std.proofs.lemmas.List.{take_all}
use Rattle.bd_keys.specs.Keys.{key_cmp}
use Rattle.bd_message.proofs.Prefixes.{joined_begins, joined_other}
use Rattle.bd_node.proofs.touching.joined_cmp.Goals as goal

pub returns-then-starts_with : goal.returns-then-starts_with
returns-then-starts_with c =
    let front : List ℕ = c.args.front.now in
    let key : List ℕ = c.args.key.now in
    c.cmp.ensures
    ∙ ap (λ (l : List ℕ). key_cmp c.args.back.now l) (take_all (length key - length front) (drop (length front) key) (omega (arith, length-drop (length front) key)))
    ∙ sym (joined_begins front c.args.back.now key (sym c.starts_with.ensures.value ∙ c.if-starts_with.true))

pub returns-else-starts_with : goal.returns-else-starts_with
returns-else-starts_with c =
    c.cmp-else-starts_with.ensures ∙ sym (joined_other c.args.front.now c.args.back.now c.args.key.now (sym c.starts_with.ensures.value ∙ c.if-starts_with.false))
