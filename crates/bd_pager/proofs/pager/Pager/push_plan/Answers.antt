use Rattle.std.proofs.Common.{◌≡◌, ◌⊎◌, ℕ, Err, inl, inr, refl, sym, ap, subst, ◌∙◌}
use Rattle.bd_message.specs.KeyMaps.{NeverWorn}
use Rattle.bd_message.proofs.Causes.{cause_after}
use Rattle.bd_node.specs.declared.node.Node.{Node}
use Rattle.bd_node.specs.Pushes.{CanMake, CanPush, IsGain}
use Rattle.bd_node.specs.Tables.{Table, IsKept, IsSound}
use Rattle.bd_counts.proofs.Causes.{fault_wider}
use Rattle.bd_pager.specs.Calling.{read_known}
use Rattle.bd_pager.specs.Causes.{is_bad_to_push}
use Rattle.bd_pager.specs.Pagers.{Paged, spots_of, nodes_of, table_of, is_known}
use Rattle.bd_pager.specs.Places.{Spots, level_in, IsBadSpot}
use Rattle.bd_pager.proofs.DamageLemmas.{shown_cause, reads_before}
use Rattle.bd_pager.proofs.PushedLemmas.{cannot_push, none_made, read_before}
use Rattle.bd_pager.proofs.StepsLemmas.{OnlyReadsOf, reads_after}
use Rattle.bd_pager.proofs.pager.Pager.push_plan.Goals as goal

pub read-requires-2 : goal.read-requires-2
read-requires-2 g c = subst (λ (t : Table). IsKept t c.args.push.child) (sym c.in-Ok.ensures.left.table) c.requires.push.child

pub push_puts-requires-clause-gain : goal.push_puts-requires-clause-gain
push_puts-requires-clause-gain g c =
    let child = c.args.push.child in
    let level = c.in-Ok-read.ensures.node.of_level.level_is ∙ ap (λ (s : Spots). level_in (s child)) c.in-Ok.ensures.left.read.spots in
    subst (λ (l : ℕ). IsGain l c.args.push.gain) (sym level) c.requires.push.gain

pub returns-in-Err-clause-cause : goal.returns-in-Err-clause-cause
returns-in-Err-clause-cause g c =
    let D = g.D.Device in
    let old : Paged g.row.D.Denot = c.args.self.now in
    let new : Paged g.row.D.Denot = c.read.new.self in
    let push = c.args.push in
    let bad : ℕ → Type 0 = λ b. is_known D new → IsBadSpot (D.contents new.dev) (spots_of new push.parent) b in
    fault_wider (D.fault_count old.dev) (D.fault_count new.dev) (D.last_failed new.dev) bad (is_bad_to_push D new push) NeverWorn NeverWorn
    (λ b h known. inl (push.parent, inl refl, h known)) (λ k never. never) c.in-Err.fault c.in-Err.ensures.cause

pub returns-in-Err-read-clause-cause : goal.returns-in-Err-read-clause-cause
returns-in-Err-read-clause-cause g c =
    let D = g.D.Device in
    let old : Paged g.row.D.Denot = c.args.self.now in
    let mid : Paged g.row.D.Denot = c.read.new.self in
    let new : Paged g.row.D.Denot = c.read-2.new.self in
    let push = c.args.push in
    let bad : ℕ → Type 0 = λ b. is_known D new → IsBadSpot (D.contents new.dev) (spots_of new push.child) b in
    cause_after (D.fault_count old.dev) (D.fault_count mid.dev) (D.fault_count new.dev) (D.last_failed new.dev) (is_bad_to_push D new push) NeverWorn (Err c.in-Err-read.fault) c.in-Ok.ensures.cause.kept
    (fault_wider (D.fault_count mid.dev) (D.fault_count new.dev) (D.last_failed new.dev) bad (is_bad_to_push D new push) NeverWorn NeverWorn
    (λ b h known. inl (push.child, inr refl, h known)) (λ k never. never) c.in-Err-read.fault c.in-Err-read.ensures.cause)

pub returns-in-Ok-None-clause-left : goal.returns-in-Ok-None-clause-left
returns-in-Ok-None-clause-left g c =
    reads_after g.D.Device c.args.self.now c.read-2.new.self c.damage.new.self (reads_after g.D.Device c.args.self.now c.read.new.self c.read-2.new.self c.in-Ok.ensures.left c.in-Ok-read.ensures.left) c.damage.ensures.left

pub returns-in-Ok-None-clause-cause : goal.returns-in-Ok-None-clause-cause
returns-in-Ok-None-clause-cause g c =
    let D = g.D.Device in
    let old : Paged g.row.D.Denot = c.args.self.now in
    let mid : Paged g.row.D.Denot = c.read.new.self in
    let last : Paged g.row.D.Denot = c.read-2.new.self in
    let new : Paged g.row.D.Denot = c.damage.new.self in
    let push = c.args.push in
    let n : Node = c.in-Ok.node.value in
    let m : Node = c.in-Ok-read.node.value in
    let left : OnlyReadsOf D old new = reads_after D old last new (reads_after D old mid last c.in-Ok.ensures.left c.in-Ok-read.ensures.left) c.damage.ensures.left in
    let cannot : CanMake push n m → ⊥ = λ can. none_made _ c.in-Ok-None.field-0 c.in-Ok-None.field-0-is c.in-Ok-None.ensures (subst (λ (x : Node). CanMake push x m) (sym c.deref.ensures) can) in
    let none : is_known D old → CanPush (nodes_of D old) (table_of old) push → ⊥ =
    cannot_push D old push n m c.in-Ok.ensures.node (read_before D old mid push.child m c.in-Ok.ensures.left c.in-Ok-read.ensures.node) cannot in
    shown_cause D new (D.fault_count old.dev) (D.fault_count last.dev) (λ id. (id ≡ push.parent) ⊎ (id ≡ push.child)) (CanPush (nodes_of D new) (table_of new) push → ⊥) NeverWorn c.damage.result
    (c.in-Ok-read.ensures.cause.kept ∙ c.in-Ok.ensures.cause.kept) c.damage.ensures.later c.damage.ensures.stays c.damage.ensures.cause
    (λ known_new.
    let known = read_known D old new left.read known_new in (
      λ can. none known (reads_before D old new left (λ nodes t. CanPush nodes t push) known can),
      λ sound. none known (c.requires.can known (reads_before D old new left IsSound known sound)),
    ))
