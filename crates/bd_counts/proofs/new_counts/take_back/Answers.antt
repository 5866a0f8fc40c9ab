use Rattle.std.proofs.Common.{◌≡◌, ℕ, ◌-◌, ◌≤◌, ◌++◌, ◌∷◌, [], inr, refl, arith, List, ◌<◌, sym, ap, ◌∙◌}
use Rattle.std.proofs.lemmas.Result.{err_from_is_err_and}
use Rattle.bd_message.specs.KeyMaps.{NeverWorn}
use Rattle.bd_node.specs.Meaning.{Nodes}
use Rattle.bd_node.specs.Tables.{Table, one_if}
use Rattle.bd_node.proofs.Sound.{one_if-same}
use Rattle.bd_counts.specs.Counting.{overlaid}
use Rattle.bd_counts.specs.Releasing.{IsLess}
use Rattle.bd_counts.specs.Frames.{IsBadFor}
use Rattle.bd_counts.proofs.Accounts.{falls_below, let_go, accounted_one, accounted_last}
use Rattle.bd_counts.proofs.Causes.{fault_wider}
use Rattle.bd_counts.proofs.Overlays.{overlaid_at, overlaid_less}
use Rattle.bd_counts.proofs.Recounting.{recount_one, recount_last, owing_one, owing_last}
use Rattle.bd_counts.proofs.new_counts.take_back.Goals as goal

pub returns-then-count-gt1-clause-owing : goal.returns-then-count-gt1-clause-owing
returns-then-count-gt1-clause-owing g c = λ known sound owing.
    let nodes : Nodes = g.S.Counted.nodes c.args.source.now in
    let t : Table = g.S.Counted.table c.args.source.now in
    let id : ℕ = c.args.id in
    let count : ℕ = c.count_of-count.result in
    let counts : ℕ → ℕ = overlaid t.count c.args.recount.now.counts in
    let new : ℕ → ℕ = overlaid t.count c.insert.new.self in
    let owed : List ℕ = c.args.owed.now.items in
    let more : 2 ≤ count = omega (arith, c.if-count-gt1.true) in
    let less : IsLess id counts new = overlaid_less t.count c.args.recount.now.counts c.insert.new.self id count c.count_of-count.ensures (omega arith) c.in_ok-insert.ensures.updates in
    let left : new id ≡ count - 1 = overlaid_at t.count c.args.recount.now.counts c.insert.new.self id (count - 1) c.in_ok-insert.ensures.updates in
    let some : 1 ≤ new id = omega arith in
    (refl, owing_one nodes t c.args.step.now id counts new owed (owed ++ id ∷ []) less some refl owing)

pub returns-clause-owing : goal.returns-clause-owing
returns-clause-owing g c = λ known sound owing.
    let nodes : Nodes = g.S.Counted.nodes c.args.source.now in
    let t : Table = g.S.Counted.table c.args.source.now in
    let id : ℕ = c.args.id in
    let count : ℕ = c.count_of-count.result in
    let counts : ℕ → ℕ = overlaid t.count c.args.recount.now.counts in
    let new : ℕ → ℕ = overlaid t.count c.insert.new.self in
    let owed : List ℕ = c.args.owed.now.items in
    let some : 1 ≤ count = omega (arith, c.if-count-least_count.false) in
    let one : count ≤ 1 = omega (arith, c.if-count-gt1.false) in
    let less : IsLess id counts new = overlaid_less t.count c.args.recount.now.counts c.insert.new.self id count c.count_of-count.ensures some c.in_ok-insert.ensures.updates in
    let left : new id ≡ count - 1 = overlaid_at t.count c.args.recount.now.counts c.insert.new.self id (count - 1) c.in_ok-insert.ensures.updates in
    let none : new id ≡ 0 = omega arith in
    (refl, owing_last nodes t c.args.step.now id counts new owed (owed ++ id ∷ []) c.push_left.new.owed.items less none refl (c.in_ok-push_left.ensures.owed known) owing)

pub returns-then-count-gt1-clause-counts : goal.returns-then-count-gt1-clause-counts
returns-then-count-gt1-clause-counts g c = λ _.
    let t : Table = g.S.Counted.table c.args.source.now in
    let id : ℕ = c.args.id in
    let count : ℕ = c.count_of-count.result in
    let counts : ℕ → ℕ = overlaid t.count c.args.recount.now.counts in
    let new : ℕ → ℕ = overlaid t.count c.insert.new.self in
    let more : 2 ≤ count = omega (arith, c.if-count-gt1.true) in
    let less : IsLess id counts new = overlaid_less t.count c.args.recount.now.counts c.insert.new.self id count c.count_of-count.ensures (omega arith) c.in_ok-insert.ensures.updates in
    let left : new id ≡ count - 1 = overlaid_at t.count c.args.recount.now.counts c.insert.new.self id (count - 1) c.in_ok-insert.ensures.updates in
    let some : 1 ≤ new id = omega arith in
    recount_one t c.args.step.now id counts new c.args.recount.now.gone.items less some c.requires.counts

pub returns-clause-counts : goal.returns-clause-counts
returns-clause-counts g c = λ _.
    let t : Table = g.S.Counted.table c.args.source.now in
    let id : ℕ = c.args.id in
    let count : ℕ = c.count_of-count.result in
    let counts : ℕ → ℕ = overlaid t.count c.args.recount.now.counts in
    let new : ℕ → ℕ = overlaid t.count c.insert.new.self in
    let one : count ≡ 1 = omega (arith, c.if-count-gt1.false, c.if-count-least_count.false) in
    let least : one_if c.args.step.now.root id < count = omega (arith, c.if-count-least_count.false, c.least_count.ensures) in
    let less : IsLess id counts new = overlaid_less t.count c.args.recount.now.counts c.insert.new.self id count c.count_of-count.ensures (omega arith) c.in_ok-insert.ensures.updates in
    let left : new id ≡ count - 1 = overlaid_at t.count c.args.recount.now.counts c.insert.new.self id (count - 1) c.in_ok-insert.ensures.updates in
    let none : new id ≡ 0 = omega arith in
    let other : c.args.step.now.root ≡ id → ⊥ = λ same. (let root : one_if c.args.step.now.root id ≡ 1 = ap (one_if c.args.step.now.root) (sym same) ∙ one_if-same c.args.step.now.root in omega arith) in
    recount_last t c.args.step.now id counts new c.args.recount.now.gone.items c.push.new.self.items less none other c.in_ok-push.ensures.items c.requires.counts

pub returns-then-count-least_count-clause-account : goal.returns-then-count-least_count-clause-account
returns-then-count-least_count-clause-account g c = λ known.
    let nodes : Nodes = g.S.Counted.nodes c.args.source.now in
    let t : Table = g.S.Counted.table c.args.source.now in
    let id : ℕ = c.args.id in
    let counts : ℕ → ℕ = overlaid t.count c.args.recount.now.counts in
    let owed : List ℕ = c.args.owed.now.items in
    let low : counts id ≤ one_if c.args.step.now.root id = omega (arith, c.if-count-least_count.true, c.least_count.ensures, c.count_of-count.ensures) in
    falls_below nodes t c.args.step.now id counts c.args.recount.now.gone.items owed (owed ++ id ∷ []) refl (c.requires.account known) low

pub returns-then-count-gt1-clause-account : goal.returns-then-count-gt1-clause-account
returns-then-count-gt1-clause-account g c = λ known.
    let nodes : Nodes = g.S.Counted.nodes c.args.source.now in
    let t : Table = g.S.Counted.table c.args.source.now in
    let id : ℕ = c.args.id in
    let count : ℕ = c.count_of-count.result in
    let counts : ℕ → ℕ = overlaid t.count c.args.recount.now.counts in
    let new : ℕ → ℕ = overlaid t.count c.insert.new.self in
    let owed : List ℕ = c.args.owed.now.items in
    let more : 2 ≤ count = omega (arith, c.if-count-gt1.true) in
    let less : IsLess id counts new = overlaid_less t.count c.args.recount.now.counts c.insert.new.self id count c.count_of-count.ensures (omega arith) c.in_ok-insert.ensures.updates in
    accounted_one nodes t c.args.step.now id counts c.args.recount.now.gone.items owed (owed ++ id ∷ []) refl (c.requires.account known) new less

pub returns-clause-account : goal.returns-clause-account
returns-clause-account g c = λ known.
    let nodes : Nodes = g.S.Counted.nodes c.args.source.now in
    let t : Table = g.S.Counted.table c.args.source.now in
    let id : ℕ = c.args.id in
    let count : ℕ = c.count_of-count.result in
    let counts : ℕ → ℕ = overlaid t.count c.args.recount.now.counts in
    let new : ℕ → ℕ = overlaid t.count c.insert.new.self in
    let owed : List ℕ = c.args.owed.now.items in
    let one : count ≡ 1 = omega (arith, c.if-count-gt1.false, c.if-count-least_count.false) in
    let less : IsLess id counts new = overlaid_less t.count c.args.recount.now.counts c.insert.new.self id count c.count_of-count.ensures (omega arith) c.in_ok-insert.ensures.updates in
    accounted_last nodes t c.args.step.now id counts c.args.recount.now.gone.items owed (owed ++ id ∷ []) refl (c.requires.account known) new c.push.new.self.items c.push_left.new.owed.items
    c.requires.counts (sym c.count_of-count.ensures ∙ one) less c.in_ok-push.ensures.items (c.in_ok-push_left.ensures.owed known)

pub returns-in_err-push_left-clause-cause : goal.returns-in_err-push_left-clause-cause
returns-in_err-push_left-clause-cause g c =
    let p = err_from_is_err_and c.from_residual-in_err-push_left.result c.from_residual-in_err-push_left.ensures.1 in
    let C = g.S.Counted in
    let old = c.args.source.now in
    let new = c.push_left.new.source in
    let step = c.args.step.now in
    let t : Table = C.table old in
    let id : ℕ = c.args.id in
    let counts : ℕ → ℕ = overlaid t.count c.args.recount.now.counts in
    let owed : List ℕ = c.args.owed.now.items in
    let one : c.count_of-count.result ≡ 1 = omega (arith, c.if-count-gt1.false, c.if-count-least_count.false) in
    rw (p.1, p.2)
    (fault_wider (C.fault_count old) (C.fault_count new) (C.last_failed new) (C.bad new id) (IsBadFor C old step new) NeverWorn NeverWorn
    (λ b bad known. (id, inr (let_go (C.nodes old) t step id counts c.args.recount.now.gone.items owed (owed ++ id ∷ []) refl (c.requires.account known) c.requires.counts (sym c.count_of-count.ensures ∙ one)), bad))
    (λ k worn. worn) c.in_err-push_left.field-0.0 c.in_err-push_left.ensures.cause)
