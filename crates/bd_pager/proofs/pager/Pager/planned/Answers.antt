use Rattle.std.proofs.Common.{◌≡◌, ℕ, ◌+◌, ◌^◌, ◌<◌, ◌++◌, List, Option, IfSome, Err, inl, inr, length, map, refl, sym, ap, subst, ◌∙◌}
use Rattle.std.specs.Prelude.{SomeIff}
use Rattle.std.specs.Option.{option_map}
use Rattle.bd_message.specs.KeyMaps.{NeverWorn}
use Rattle.bd_message.proofs.Causes.{cause_after}
use Rattle.bd_counts.proofs.Causes.{fault_wider}
use Rattle.bd_device.specs.Blocks.{Image}
use Rattle.bd_node.specs.declared.node.Node.{Node}
use Rattle.bd_node.specs.Shape.{IsShape}
use Rattle.bd_node.specs.Steps.{IsWornBy}
use Rattle.bd_node.specs.Tables.{Table, IsKept, IsTable}
use Rattle.bd_pager.specs.Causes.{is_bad_to_commit}
use Rattle.bd_pager.specs.declared.stepping.Put.{Put}
use Rattle.bd_pager.specs.Committing.{IsNewRoot}
use Rattle.bd_pager.specs.Pagers.{Paged, spots_of, table_of, is_known}
use Rattle.bd_pager.specs.Places.{Spots, IsBadSpot}
use Rattle.bd_pager.specs.Stepping.{held, change_of, put_at, made_changes, given_changes}
use Rattle.bd_pager.proofs.StepsLemmas.{fits_if, reads_after, puts_given, puts_shape, unput_kept}
use Rattle.bd_pager.proofs.pager.Pager.planned.Goals as goal

pub root_after-requires-clause-shape : goal.root_after-requires-clause-shape
root_after-requires-clause-shape g c =
    let old : Paged g.row.D.Denot = c.args.self.now in
    let step = c.args.step in
    let table : IsTable (table_of old) = subst (λ (p : Paged g.row.D.Denot). IsTable (table_of p)) c.self.view_is c.self.invariant.0.table in
    let next = ap (λ (p : Paged g.row.D.Denot). p.next) c.self-2.view_is ∙ ap (λ (t : Table). t.next) c.in-Ok.ensures.left.table in
    let are : map change_of c.in-Ok-puts_of.puts.items ≡ given_changes old.next step = c.in-Ok-puts_of.ensures ∙ ap (λ (n : ℕ). made_changes n step.made ++ step.changes) next in
    subst (λ (puts : List Put). IfSome (put_at puts step.root) (λ node. IsShape node.value)) (sym c.as_slice.ensures.value)
    (puts_shape (table_of old) step c.in-Ok-puts_of.puts.items table c.requires.step are step.root)

pub root_after-requires-clause-there : goal.root_after-requires-clause-there
root_after-requires-clause-there g c = λ none.
    let old : Paged g.row.D.Denot = c.args.self.now in
    let step = c.args.step in
    let puts = c.in-Ok-puts_of.puts.items in
    let table : IsTable (table_of old) = subst (λ (p : Paged g.row.D.Denot). IsTable (table_of p)) c.self.view_is c.self.invariant.0.table in
    let next = ap (λ (p : Paged g.row.D.Denot). p.next) c.self-2.view_is ∙ ap (λ (t : Table). t.next) c.in-Ok.ensures.left.table in
    let are : map change_of puts ≡ given_changes old.next step = c.in-Ok-puts_of.ensures ∙ ap (λ (n : ℕ). made_changes n step.made ++ step.changes) next in
    subst (λ (t : Table). IsKept t step.root) (sym c.in-Ok.ensures.left.table)
    (unput_kept (table_of old) step puts table c.requires.step are step.root c.requires.step.root (ap (λ (ps : List Put). put_at ps step.root) (sym c.as_slice.ensures.value) ∙ none))

pub returns-in-Err-root_after-clause-left : goal.returns-in-Err-root_after-clause-left
returns-in-Err-root_after-clause-left g c = reads_after g.D.Device c.args.self.now c.recounted.new.self c.root_after.new.self c.in-Ok.ensures.left c.in-Err-root_after.ensures.left

pub returns-in-Err-root_after-clause-cause : goal.returns-in-Err-root_after-clause-cause
returns-in-Err-root_after-clause-cause g c =
    let D = g.D.Device in
    let old : Paged g.row.D.Denot = c.args.self.now in
    let mid : Paged g.row.D.Denot = c.recounted.new.self in
    let new : Paged g.row.D.Denot = c.root_after.new.self in
    let step = c.args.step in
    let bad : ℕ → Type 0 = λ b. is_known D new → IsBadSpot (D.contents new.dev) (spots_of new step.root) b in
    cause_after (D.fault_count old.dev) (D.fault_count mid.dev) (D.fault_count new.dev) (D.last_failed new.dev) (is_bad_to_commit D new step) (IsWornBy (table_of old) step) (Err c.in-Err-root_after.fault) c.in-Ok.ensures.cause.kept
    (fault_wider (D.fault_count mid.dev) (D.fault_count new.dev) (D.last_failed new.dev) bad (is_bad_to_commit D new step) NeverWorn (IsWornBy (table_of old) step)
    (λ b h known. inl (step.root, inr refl, h known)) (λ k never. absurd never) c.in-Err-root_after.fault c.in-Err-root_after.ensures.cause)

pub returns-clause-left : goal.returns-clause-left
returns-clause-left g c = reads_after g.D.Device c.args.self.now c.recounted.new.self c.root_after.new.self c.in-Ok.ensures.left c.in-Ok-root_after.ensures.left

pub returns-clause-plan : goal.returns-clause-plan
returns-clause-plan g c =
    let old : Paged g.row.D.Denot = c.args.self.now in
    let mid : Paged g.row.D.Denot = c.recounted.new.self in
    let step = c.args.step in
    let root : ℕ = step.root in
    let puts = c.in-Ok-puts_of.puts.items in
    let new_root = c.in-Ok-root_after.new_root in
    let left = c.in-Ok.ensures.left in
    let table : IsTable (table_of old) = subst (λ (p : Paged g.row.D.Denot). IsTable (table_of p)) c.self.view_is c.self.invariant.0.table in
    let first = ap (λ (p : Paged g.row.D.Denot). p.next) c.self.view_is in
    let next = ap (λ (p : Paged g.row.D.Denot). p.next) c.self-2.view_is ∙ ap (λ (t : Table). t.next) left.table in
    let are : map change_of puts ≡ given_changes old.next step = c.in-Ok-puts_of.ensures ∙ ap (λ (n : ℕ). made_changes n step.made ++ step.changes) next in
    let given_is = ap (λ (ps : List Put). option_map held (put_at ps root)) c.as_slice.ensures.value ∙ puts_given (table_of old) step puts table c.requires.step are root in
    record {
      puts = are;
      recount = c.in-Ok.ensures.counts;
      root = refl;
      root_is =
          subst (λ (o : Option Node). IsNewRoot (g.D.Device.contents old.dev) (spots_of old) root o new_root) given_is
          (subst (λ (s : Spots). IsNewRoot (g.D.Device.contents old.dev) s root (option_map held (put_at c.as_slice.result.now root)) new_root) left.read.spots
          (subst (λ (i : Option Image). IsNewRoot i (spots_of mid) root (option_map held (put_at c.as_slice.result.now root)) new_root) left.read.device.kept c.in-Ok-root_after.ensures.root));
      fits = subst (λ (n : ℕ). n + length step.made < 2 ^ 64) first (fits_if c.checked_add.result c.is_none.result (c.self.inside.next + length step.made) (subst (λ (k : ℕ). SomeIff c.checked_add.result (c.self.inside.next + k < 2 ^ 64) (c.self.inside.next + k)) c.len.ensures c.checked_add.ensures) c.is_none.ensures c.if-is_none.false);
    }
