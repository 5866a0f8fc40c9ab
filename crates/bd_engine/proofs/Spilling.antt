-- What nodes that are written early leave of an engine, and what then holds.
use Rattle.std.proofs.Common.{◌≡◌, ℕ, Bool, is_some, length, Option, None, Result, Ok, Err, sym, ap, subst, refl, ◌∙◌}
use Rattle.std.specs.Prelude.{is_err}
use Rattle.std.specs.List.{concat}
use Rattle.bd_device.specs.declared.device.Device.{Ghosts}
use Rattle.bd_message.specs.KeyMaps.{SameAt}
use Rattle.bd_node.specs.Meaning.{Nodes}
use Rattle.bd_node.specs.Tables.{Table, IsSound, root_at}
use Rattle.bd_table.specs.Tables.{AreFreeSlots, IsTableAt}
use Rattle.bd_pager.specs.Moving.{IsDue, Spills, WritesOnly}
use Rattle.bd_pager.specs.Pagers.{Paged, spots_of, nodes_of, table_of, is_known, IsPaged}
use Rattle.bd_pager.specs.Damage.{IsFirstDamaged}
use Rattle.bd_pager.proofs.DamageLemmas.{first_stays}
use Rattle.bd_image.specs.Versions.{version_of}
use Rattle.bd_checkpoint.specs.Kept.{Saved, slots_held, IsOpenOn}
use Rattle.bd_checkpoint.specs.Recovering.{saved_of}
use Rattle.bd_checkpoint.specs.Spare.{WritesSpare}
use Rattle.bd_checkpoint.proofs.Handed.{IsSince}
use Rattle.bd_checkpoint.proofs.Spare.{open_on, time_on, kept_on}
use Rattle.bd_checkpoint.proofs.Starting.{PartsAreOne}
use Rattle.bd_shown.specs.Shown.{ids_of, tree_of}
use Rattle.bd_engine.specs.Engines.{EngineState, seen, keys_of, stop_by, HasSoundNodes, IsStanding, WritesEarly}
use Rattle.bd_engine.proofs.Damage.{no_worse_spilled}

-- it is stopped where they failed
stopped_if : {T E : Type 0} (calls : ℕ) (r : Result T E) → is_err r ≡ is_some (stop_by calls r)
stopped_if calls (Ok done) = refl
stopped_if calls (Err fault) = refl

pub due_if : {D T E : Type 0} (g : Ghosts D) (p q : Paged D) (calls : ℕ) (r : Result T E) (stop : Option ℕ) → stop ≡ stop_by calls r → WritesOnly g (IsDue p.root (is_err r) (spots_of p) (spots_of q)) p.dev q.dev
    → WritesOnly g (IsDue p.root (is_some stop) (spots_of p) (spots_of q)) p.dev q.dev
due_if g p q calls r stop is due =
    subst (λ (failed : Bool). WritesOnly g (IsDue p.root failed (spots_of p) (spots_of q)) p.dev q.dev) (stopped_if calls r ∙ sym (ap is_some is)) due

-- what is seen of nodes stays over such writes
pub record ChangesNothing {D : Type 0} (g : Ghosts D) : Type 0 where
  pub table : (p q : Paged D) → Spills g p q → table_of q ≡ table_of p
  pub known : (p q : Paged D) → Spills g p q → is_known g p → is_known g q
  pub nodes : (p q : Paged D) → Spills g p q → is_known g p → (id : ℕ) → nodes_of g q id ≡ nodes_of g p id

module _ {D : Type 0} (g : Ghosts D) (law : ChangesNothing g) (old p : Paged D) (s : Spills g old p) where
  nodes : is_known g old → nodes_of g p ≡ nodes_of g old
  nodes is = λ i id. law.nodes old p s is id i

  pub spilled_sound : HasSoundNodes g old → HasSoundNodes g p
  spilled_sound h = record {
    known = law.known old p s h.known;
    sound = subst (λ (t : Table). IsSound (nodes_of g p) t) (sym (law.table old p s)) (subst (λ (n : Nodes). IsSound n (table_of old)) (sym (nodes h.known)) h.sound);
  }

  pub spilled_same : HasSoundNodes g old → SameAt (keys_of g old) (keys_of g p)
  spilled_same h = λ k i. root_at (nodes h.known i) (law.table old p s i) k

module _ {D : Type 0} (g : Ghosts D) (one : PartsAreOne) (old : EngineState D) (p : Paged D) (since : IsSince g p.dev) (h : IsStanding g old) (on : old.stop ≡ None) (paged : IsPaged (g.contents old.pager.dev) old.pager)
    (s : Spills g old.pager p) (stop : Option ℕ) where
  free : AreFreeSlots old.live.slots (slots_held (saved_of old.pager)) old.pager.spare
  free = subst (λ (n : ℕ). AreFreeSlots n (slots_held (saved_of old.pager)) old.pager.spare) h.slots paged.spare

  same_saved : saved_of old.pager ≡ saved_of p
  same_saved = sym (ap (λ (q : Paged D). saved_of q) s.rest)

  writes : WritesSpare g old.pager.dev p.dev old.pager.spare
  writes = record { count = s.moves.stays.count; elsewhere = s.moves.elsewhere; time = s.moves.time }

  still_open : IsOpenOn g p.dev old.live (saved_of p) old.log
  still_open = subst (λ (x : Saved). IsOpenOn g p.dev old.live x old.log) same_saved (open_on g old.pager.dev p.dev since old.pager.spare writes one old.live (saved_of old.pager) old.log (h.going on) free)

  -- the last checkpoint and the log are known as before, also where a write failed
  pub spilled_standing : (HasSoundNodes g old.pager → HasSoundNodes g p) → IsStanding g (seen p old.recalled old.log old.live stop old.walk old.flushes)
  spilled_standing sound = record {
    fits = h.fits;
    size = s.moves.stays.count ∙ h.size;
    slots = ap (λ (q : Paged D). length q.spare) s.rest ∙ h.slots;
    table = subst (λ (x : Saved). IsTableAt old.live.slots x.at x.table) same_saved h.table;
    unlent = ap (λ (q : Paged D). q.is_lent) s.rest ∙ h.unlent;
    room = s.room ∙ h.room;
    records = h.records;
    going = λ none. still_open;
    no_worse = λ none. no_worse_spilled g old.pager p paged s sound (h.no_worse on);
  }

  pub writes_early : ChangesNothing g → WritesOnly g (IsDue old.pager.root (is_some stop) (spots_of old.pager) (spots_of p)) old.pager.dev p.dev → WritesEarly g old (seen p old.recalled old.log old.live stop old.walk old.flushes)
  writes_early law due = record {
    table = law.table old.pager p s;
    known = law.known old.pager p s;
    nodes = nodes g law old.pager p s;
    view = λ is i. record {
      tree = record { nodes = nodes g law old.pager p s is i; table = law.table old.pager p s i; walk = old.walk };
      saved = ids_of (s.rest i).saved.entries;
      slots = length (s.rest i).spare;
      version = version_of old.live;
      epoch = old.live.epoch;
      place = old.log.place;
      waiting = length (concat old.log.waiting);
    };
    others = λ i. record {
      tree = tree_of g p old.walk;
      saved = ids_of (s.rest i).saved.entries;
      slots = length (s.rest i).spare;
      version = version_of old.live;
      epoch = old.live.epoch;
      place = old.log.place;
      waiting = length (concat old.log.waiting);
    };
    time = time_on g old.pager.dev p.dev since old.pager.spare writes one old.live (saved_of old.pager) old.log (h.going on) free;
    kept = kept_on g old.pager.dev p.dev since old.pager.spare writes one old.live (saved_of old.pager) old.log (h.going on) free;
    slots = s.moves.elsewhere;
    due = due;
    bad = s.bad;
    first = λ b h. first_stays (g.contents old.pager.dev) (g.contents old.pager.dev) (g.contents p.dev) old.pager paged s.moves.elsewhere b
        (subst (λ (x : Saved). IsFirstDamaged (g.contents p.dev) x.table.entries x.at b) (sym same_saved) h);
    stays = s.moves.stays;
    pager = s.rest;
    rest = refl;
  }
