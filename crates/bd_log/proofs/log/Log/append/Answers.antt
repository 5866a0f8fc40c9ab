use Rattle.std.proofs.Common.{◌≡◌, ◌+◌, ◌++◌, ◌∷◌, [], ◌≤◌, List, ℕ, length, take, drop, arith, sym, ap, subst, ◌∙◌}
use Rattle.std.proofs.lemmas.List.{take_at}
use Rattle.bd_log.specs.Logs.{LogState, IsBuffer, room_left}
use Rattle.bd_log.specs.Batches.{records_in}
use Rattle.bd_log.proofs.Buffers.{count_fits, buffer_more, put_length, waiting_size}
use Rattle.bd_log.proofs.log.Log.append.Goals as goal

pub overflow_add-self-2 : goal.overflow_add-self-2
overflow_add-self-2 c = omega (arith, count_fits c.self.inside.place c.self.inside.size c.self.inside.count c.self.inside.body.items c.self.invariant.2)

pub invariant_of-self : goal.invariant_of-self
invariant_of-self c =
    let l = c.self.inside in
    let body = c.self.inside.body.items in
    let r = c.args.bytes.now in
    let new = c.put.new.into in
    let whole = c.deref_mut.ensures.value in
    let size = waiting_size l.place l.size l.count body c.self.invariant.2 in
    let room = subst (λ (s : LogState). length r ≤ room_left s) (sym c.self.view_is) c.requires.room in
    let put : new ≡ take (24 + l.size) body ++ r ++ drop (24 + l.size + length r) body =
    c.put.ensures ∙ ap (λ b. take (24 + l.size) b ++ r ++ drop (24 + l.size + length r) b) whole in
    let same : length new ≡ length body = ap length put ∙ put_length (24 + l.size) body r (omega (arith, room, size, c.self.invariant.2.room, c.self.invariant.2.total)) in
    let more = buffer_more l.place l.size l.count body r new c.self.invariant.2 c.requires.is_record (omega (arith, room, size, c.self.invariant.2.room)) put same in
    let items : take l.body.len (new ++ drop (length new) body) ≡ new = take_at new (drop (length new) body) l.body.len (same ∙ sym (ap length whole) ∙ c.deref_mut.ensures.len) in
    (c.self.invariant.0, c.self.invariant.1, subst (IsBuffer l.place (l.size + length r) (l.count + 1)) (sym items) more.buffer)

pub returns : goal.returns
returns c =
    let l = c.self.inside in
    let body = c.self.inside.body.items in
    let r = c.args.bytes.now in
    let new = c.put.new.into in
    let whole = c.deref_mut.ensures.value in
    let size = waiting_size l.place l.size l.count body c.self.invariant.2 in
    let room = subst (λ (s : LogState). length r ≤ room_left s) (sym c.self.view_is) c.requires.room in
    let put : new ≡ take (24 + l.size) body ++ r ++ drop (24 + l.size + length r) body =
    c.put.ensures ∙ ap (λ b. take (24 + l.size) b ++ r ++ drop (24 + l.size + length r) b) whole in
    let same : length new ≡ length body = ap length put ∙ put_length (24 + l.size) body r (omega (arith, room, size, c.self.invariant.2.room, c.self.invariant.2.total)) in
    let more = buffer_more l.place l.size l.count body r new c.self.invariant.2 c.requires.is_record (omega (arith, room, size, c.self.invariant.2.room)) put same in
    let items : take l.body.len (new ++ drop (length new) body) ≡ new = take_at new (drop (length new) body) l.body.len (same ∙ sym (ap length whole) ∙ c.deref_mut.ensures.len) in
    let records = ap (λ b. records_in (l.count + 1) (take (l.size + length r) (drop 24 b))) items ∙ more.records in
    ap (λ (rs : List (List ℕ)). record { first = l.first; epoch = l.epoch; place = l.place; waiting = rs; batches = l.batches.items }) records
    ∙ ap (λ (s : LogState). record { first = s.first; epoch = s.epoch; place = s.place; waiting = s.waiting ++ r ∷ []; batches = s.batches }) c.self.view_is
