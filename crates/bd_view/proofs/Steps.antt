-- Views from which a command makes no flush step and no checkpoint.
use Rattle.std.proofs.Common.{◌≡◌, ℕ, ◌<◌, ◌≤◌, ◌⊎◌, List, refl, ap, subst, ◌∙◌, arith, lit≤, inl, inr}
use Rattle.std.specs.Prelude.{IsTrue}
use Rattle.std.proofs.lemmas.Bool.{cases_lt}
use Rattle.bd_command.specs.Command.{writes}
use Rattle.bd_command.specs.declared.Command.{Command}
use Rattle.bd_model.specs.Tree.{Tree}
use Rattle.bd_dirs.specs.Kinds.{kind_of}
use Rattle.bd_node.specs.Meaning.{Nodes}
use Rattle.bd_node.specs.Tables.{Table}
use Rattle.bd_step.specs.Settling.{IsDueOn, IsSettled}
use Rattle.bd_view.specs.Trees.{waiting_limit, source_of, IsStepIn, IsSettledIn}
use Rattle.bd_view.specs.Trees.IsStepIn.{from_root, of_source}
use Rattle.bd_view.specs.Views.{View, free_slots, save_slots, need_slots, log_room}
use Rattle.bd_view.specs.Moves.{OnlyNodes, saved_view, FlushesIn, SavesIn, AreSteps, IsQuietFor, IsCommandFull, IsExecuted}
use Rattle.bd_view.specs.Moves.AreSteps.{none, flush, save}

-- ---- what comes next

pub goes_on : (c : Command) (v : View) → IsTrue (writes c) → (need_slots c v ≤ free_slots v) ⊎ ((new : View) × SavesIn c v new) ⊎ IsCommandFull c v v (free_slots v) (need_slots c v)
goes_on c v writing =
    elim (cases_lt (free_slots v) (need_slots c v)) [
      | inr room ↦ inl room
      | inl short ↦ elim (cases_lt (free_slots v) (save_slots v)) [
        | inr room ↦ inr (inl (saved_view v, record { writing = writing; calls_for = inl short; saves = record { room = room; after = refl } }))
        | inl few ↦ inr (inr (record {
          writing = writing;
          stepped = record { made = 0; steps = none v; few = lit≤ tt };
          free_is = refl;
          need_is = refl;
          short = short;
          unsaved = inr few;
        }))
      ]
    ]

pub full_stops : (c : Command) (old new : View) (free need : ℕ) → IsCommandFull c old new free need → need_slots c new ≤ free_slots new → ⊥
full_stops c old new free need full room = omega (arith, full.free_is, full.need_is, full.short, room)

pub nodes_free : (old new : View) → OnlyNodes old new → free_slots new ≡ free_slots old
nodes_free old new h = ap (λ v. free_slots v) h.rest

pub nodes_log : (old new : View) → OnlyNodes old new → log_room new ≡ log_room old
nodes_log old new h = ap (λ v. log_room v) h.rest

-- ---- where nothing does

-- neither a flush step nor a checkpoint can come next
record IsStill (c : Command) (v : View) : Type 0 where
  flushes : (new : View) → FlushesIn c v new → ⊥
  saves : (new : View) → SavesIn c v new → ⊥

still_steps : (c : Command) (made : ℕ) (v new : View) → AreSteps c made v new → IsStill c v → (made ≡ 0) × (new ≡ v)
still_steps c made v new (none _) still = (refl, refl)
still_steps c made v new (flush n _ w _ h step) still =
    let same : w ≡ v = (still_steps c n v w h still).1 in
    absurd (still.flushes new (subst (λ u. FlushesIn c u new) same step))
still_steps c made v new (save n _ w _ h step) still =
    let same : w ≡ v = (still_steps c n v w h still).1 in
    absurd (still.saves new (subst (λ u. SavesIn c u new) same step))

-- ---- little waits, and there is room

-- where what waits for a prefix is settled, no step is due on its way
abbrev pub AreSettledApart : Type 0
AreSettledApart = (nodes : Nodes) (t : Table) (s : List ℕ) (id place : ℕ) → IsSettled nodes t s → ¬ IsDueOn nodes t s id place

none_due : AreSettledApart → (c : Command) (nodes : Nodes) (t : Table) (new : Nodes) (u : Table) → t.size ≤ waiting_limit c → IsSettledIn (source_of (kind_of c)) nodes t → IsStepIn c nodes t new u → ⊥
none_due apart c nodes t new u few settled (from_root many step) = omega (arith, few, many)
none_due apart c nodes t new u few settled (of_source s little is step) = apart nodes t s step.site.parent.id step.site.place (settled s is) step.here.due

quiet_still : AreSettledApart → (c : Command) (v : View) → IsQuietFor c v → IsStill c v
quiet_still apart c v quiet = record {
  flushes = λ new h. none_due apart c v.tree.nodes v.tree.table new.tree.nodes new.tree.table quiet.enough quiet.settled h.flushes.step;
  saves = λ new h. elim h.calls_for [ inl short ↦ omega (arith, quiet.room, short) | inr long ↦ omega (arith, quiet.log, long) ];
}

pub quiet_steps : AreSettledApart → (c : Command) (v new : View) (made : ℕ) → IsQuietFor c v → AreSteps c made v new → (made ≡ 0) × (new ≡ v)
quiet_steps apart c v new made quiet steps = still_steps c made v new steps (quiet_still apart c v quiet)

pub quiet_not_full : AreSettledApart → (c : Command) (v new : View) (free need : ℕ) → IsQuietFor c v → IsCommandFull c v new free need → ⊥
quiet_not_full apart c v new free need quiet full =
    let same : new ≡ v = (quiet_steps apart c v new full.stepped.made quiet full.stepped.steps).1 in
    omega (arith, quiet.room, full.free_is, full.need_is, full.short, ap (λ u. free_slots u) same, ap (λ u. need_slots c u) same)

-- ---- there are too few slots for a checkpoint

full_still : (c : Command) (v : View) → free_slots v < save_slots v → IsStill c v
full_still c v few = record {
  flushes = λ new h. omega (arith, few, h.room);
  saves = λ new h. omega (arith, few, h.saves.room);
}

pub full_steps : (c : Command) (v new : View) (made : ℕ) → free_slots v < save_slots v → AreSteps c made v new → (made ≡ 0) × (new ≡ v)
full_steps c v new made few steps = still_steps c made v new steps (full_still c v few)

pub full_refused : (t : Tree) (c : Command) (v new : View) → free_slots v < save_slots v → IsExecuted t c v new → ⊥
full_refused t c v new few done =
    let same : done.mid ≡ v = (full_steps c v done.mid done.stepped.made few done.stepped.steps).1 in
    omega (arith, few, done.room, ap (λ u. free_slots u) same, ap (λ u. save_slots u) same)

pub full_numbers : (c : Command) (v new : View) (free need : ℕ) → free_slots v < save_slots v → IsCommandFull c v new free need → (new ≡ v) × (free ≡ free_slots v) × (need ≡ need_slots c v)
full_numbers c v new free need few full =
    let same : new ≡ v = (full_steps c v new full.stepped.made few full.stepped.steps).1 in
    (same, full.free_is ∙ ap (λ u. free_slots u) same, full.need_is ∙ ap (λ u. need_slots c u) same)
