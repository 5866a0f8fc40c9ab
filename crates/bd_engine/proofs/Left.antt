-- What calls leave of an engine, and what then holds.
use Rattle.std.proofs.Common.{◌≡◌, ℕ, length, Option, List, Bool, true, false, refl, sym, subst, ap, ◌∙◌}
use Rattle.std.specs.Prelude.{◌≢◌, Result, Ok, Err, OnOk, OnErr}
use Rattle.std.specs.List.{concat}
use Rattle.bd_device.specs.Blocks.{Image}
use Rattle.bd_device.specs.declared.device.Device.{Ghosts}
use Rattle.bd_table.specs.Tables.{IsTableAt}
use Rattle.bd_table.specs.declared.table.Table.{Table as StoredTable}
use Rattle.bd_graft.specs.declared.grafting.Walk.{Walk}
use Rattle.bd_pager.specs.Keeping.{KeepsSaved}
use Rattle.bd_pager.specs.Places.{Spots, nodes_at}
use Rattle.bd_pager.specs.Pagers.{Paged, spots_of, nodes_of, table_of, is_known, IsKnownOver, IsPaged, IsReadOf}
use Rattle.bd_image.specs.Versions.{version_of}
use Rattle.bd_checkpoint.specs.Kept.{Saved, IsOpenOn}
use Rattle.bd_checkpoint.specs.Recovering.{saved_of}
use Rattle.bd_checkpoint.proofs.Handed.{IsSince, open_after}
use Rattle.bd_message.specs.declared.message.Message.{Message}
use Rattle.bd_message.specs.KeyMaps.{SameAt}
use Rattle.bd_node.specs.Meaning.{Nodes}
use Rattle.bd_node.specs.Steps.{HasGrown}
use Rattle.bd_node.specs.Tables.{Table, IsSound, root_at}
use Rattle.bd_path.specs.Flushed.{IsFlushed}
use Rattle.bd_pager.specs.Calling.{read_table}
use Rattle.bd_shown.proofs.Alike.{read_shown}
use Rattle.bd_shown.proofs.Kept.{kept_shown}
use Rattle.bd_view.specs.Trees.{TreeView, IsAppended, IsGraftMade, IsWalked, HasAppended, HasGrafted}
use Rattle.bd_recall.specs.Kept.{Findings}
use Rattle.bd_engine.specs.Engines.{EngineState, seen, view_of, keys_of, flushes_after, HasSoundNodes, IsSoundOn, IsStanding, IsReadOn, OnlyNodesOn}
use Rattle.bd_engine.proofs.Damage.{no_worse_kept}
use Rattle.bd_engine.proofs.Recalls.{sound_nodes, sound_same}

-- nodes that were known stay so over reads
pub read_knows : {D : Type 0} (g : Ghosts D) (p q : Paged D) → IsReadOf g p q → is_known g p → is_known g q
read_knows g p q r known =
    subst (λ (o : Option Image). IsKnownOver o (spots_of q)) (sym r.device.kept)
    (subst (λ (s : Spots). IsKnownOver (g.contents p.dev) s) (sym r.spots) known)

-- what holds between two calls, where one kept the last checkpoint
pub kept_standing : {D : Type 0} (g : Ghosts D) (old : EngineState D) (p : Paged D) (recalled : Findings) (walk : Walk) (flushes : ℕ) → IsSince g p.dev → IsStanding g old → KeepsSaved g old.pager p → (HasSoundNodes g old.pager → HasSoundNodes g p) → IsStanding g (record old { pager = p; recalled = recalled; walk = walk; flushes = flushes })
kept_standing g old p recalled walk flushes earlier h k sound =
    let same : saved_of old.pager ≡ saved_of p = λ i. record { at = sym k.at i; table = sym k.saved i } in
    record {
      fits = h.fits;
      size = k.device.count ∙ h.size;
      slots = ap (λ (l : List Bool). length l) k.spare ∙ h.slots;
      table = subst (λ (a : List ℕ). IsTableAt old.live.slots a p.saved) (sym k.at) (subst (λ (t : StoredTable). IsTableAt old.live.slots old.pager.at t) (sym k.saved) h.table);
      unlent = k.lent h.unlent;
      room = k.room ∙ h.room;
      records = h.records;
      going = λ on. subst (λ (s : Saved). IsOpenOn g p.dev old.live s old.log) same (open_after g old.pager.dev p.dev earlier k.device old.live (saved_of old.pager) old.log (h.going on));
      no_worse = λ on. no_worse_kept g old.pager p k sound (h.no_worse on);
    }

-- what reads leave of an engine
pub read_on : {D : Type 0} (g : Ghosts D) (old : EngineState D) (p : Paged D) (recalled : Findings) (walk : Walk) (flushes : ℕ) → walk ≡ old.walk → flushes ≡ old.flushes → IsReadOf g old.pager p → (IsSoundOn g old → IsSoundOn g (seen p recalled old.log old.live old.stop walk flushes)) → IsReadOn g old (seen p recalled old.log old.live old.stop walk flushes)
read_on g old p recalled walk flushes same count r sound = record {
  read = r;
  known = read_knows g old.pager p r;
  view = (λ i. view_of g (record old { pager = p; walk = same i })) ∙ read_shown g old.pager p old.walk (version_of old.live) old.live.epoch old.log.place (length (concat old.log.waiting)) r;
  sound = sound;
  rest = λ i. record old { pager = p; recalled = recalled; walk = same i; flushes = count i };
}

-- what calls leave that change nodes alone
pub only_nodes_on : {D : Type 0} (g : Ghosts D) (old : EngineState D) (p : Paged D) (recalled : Findings) (walk : Walk) (flushes : ℕ) → IsStanding g old → IsPaged (g.contents old.pager.dev) old.pager → IsPaged (g.contents p.dev) p
    → (is_known g old.pager → is_known g p) → KeepsSaved g old.pager p → OnlyNodesOn g old (record old { pager = p; recalled = recalled; walk = walk; flushes = flushes })
only_nodes_on g old p recalled walk flushes h was now known k = record {
  keeps = k;
  known = known;
  view = λ is. kept_shown g (g.contents old.pager.dev) (g.contents p.dev) old.pager p old.walk walk (version_of old.live) old.live.epoch old.log.place (length (concat old.log.waiting)) was now
      (subst (λ (n : ℕ). IsTableAt n old.pager.at old.pager.saved) (sym h.slots) h.table) is (known is) k;
  rest = refl;
}

-- what holds of a pager holds of the same one
pub paged_at : {D : Type 0} (g : Ghosts D) (p q : Paged D) → p ≡ q → IsPaged (g.contents p.dev) p → IsPaged (g.contents q.dev) q
paged_at g p q same h = subst (λ (x : Paged _). IsPaged (g.contents x.dev) x) same h

-- ---- sound nodes

pub read_nodes : {D : Type 0} (g : Ghosts D) (p q : Paged D) → IsReadOf g p q → nodes_of g q ≡ nodes_of g p
read_nodes g p q r = λ i. nodes_at (r.device.kept i) (r.spots i)

-- they stay so over reads
pub read_sound : {D : Type 0} (g : Ghosts D) (p q : Paged D) → IsReadOf g p q → HasSoundNodes g p → HasSoundNodes g q
read_sound g p q r s = record {
  known = read_knows g p q r s.known;
  sound = subst (λ (t : Table). IsSound (nodes_of g q) t) (sym (read_table g p q r)) (subst (λ (n : Nodes). IsSound n (table_of p)) (sym (read_nodes g p q r)) s.sound);
}

pub read_same : {D : Type 0} (g : Ghosts D) (p q : Paged D) → IsReadOf g p q → SameAt (keys_of g p) (keys_of g q)
read_same g p q r k = λ i. root_at (read_nodes g p q r i) (read_table g p q r i) k

-- and over a flush step, or none
pub flush_sound : {D E : Type 0} (g : Ghosts D) (p q : Paged D) (r : Result Bool E) → (r ≢ Ok true → IsReadOf g p q) → (r ≡ Ok true → IsFlushed (nodes_of g p) (table_of p) (nodes_of g q) (table_of q)) → is_known g q → HasSoundNodes g p → HasSoundNodes g q
flush_sound g p q (Ok true) rest step known s = record { known = known; sound = (step refl).sound }
flush_sound g p q (Ok false) rest step known s = read_sound g p q (rest (λ e. cc)) s
flush_sound g p q (Err e) rest step known s = read_sound g p q (rest (λ e. cc)) s

pub flush_same : {D E : Type 0} (g : Ghosts D) (p q : Paged D) (r : Result Bool E) → (r ≢ Ok true → IsReadOf g p q) → (r ≡ Ok true → IsFlushed (nodes_of g p) (table_of p) (nodes_of g q) (table_of q)) → SameAt (keys_of g p) (keys_of g q)
flush_same g p q (Ok true) rest step = (step refl).same
flush_same g p q (Ok false) rest step = read_same g p q (rest (λ e. cc))
flush_same g p q (Err e) rest step = read_same g p q (rest (λ e. cc))

-- and over messages or a graft
pub stays_sound : {D T E : Type 0} (g : Ghosts D) (p q : Paged D) (r : Result T E) → OnErr r (IsReadOf g p q) → OnOk r (IsSound (nodes_of g q) (table_of q)) → is_known g q → HasSoundNodes g p → HasSoundNodes g q
stays_sound g p q (Ok x) err sound known s = record { known = known; sound = sound }
stays_sound g p q (Err e) err sound known s = read_sound g p q err s

pub is_appended : {T E : Type 0} (r : Result T E) (list : List Message) (old new : TreeView) → OnOk r (IsAppended old.nodes old.table list new.nodes new.table) → OnOk r (HasGrown old.table list new.table) → new.walk ≡ old.walk → OnOk r (HasAppended list old new)
is_appended (Ok x) list old new made grows walk = record { made = made; grows = grows; walk_is = walk }
is_appended (Err e) list old new made grows walk = tt

pub is_grafted : {T E : Type 0} (r : Result T E) (s d : List ℕ) (keep : Bool) (old new : TreeView) → OnOk r (IsGraftMade old.nodes old.table s d keep new.nodes new.table new.walk) → OnOk r (IsWalked old.table new.table new.walk) → OnOk r (HasGrafted s d keep old new)
is_grafted (Ok x) s d keep old new made walked = record { made = made; walked = walked }
is_grafted (Err e) s d keep old new made walked = tt

-- none is counted where none was made
pub not_counted : {E : Type 0} (r : Result Bool E) (before now : ℕ) → (r ≡ Ok true → ⊥) → now ≡ flushes_after before r → now ≡ before
not_counted (Ok true) before now none is = absurd (none refl)
not_counted (Ok false) before now none is = is
not_counted (Err e) before now none is = is

-- where it failed, a graft only read
pub err_read : {D T E : Type 0} (g : Ghosts D) (old : EngineState D) (p : Paged D) (recalled : Findings) (walk : Walk) (r : Result T E) → OnErr r (walk ≡ old.walk) → OnErr r (IsReadOf g old.pager p) → (IsSoundOn g old → IsSoundOn g (seen p recalled old.log old.live old.stop walk old.flushes)) → OnErr r (IsReadOn g old (seen p recalled old.log old.live old.stop walk old.flushes))
err_read g old p recalled walk (Ok x) same read sound = tt
err_read g old p recalled walk (Err e) same read sound = read_on g old p recalled walk old.flushes same refl read sound

-- and so what stood at the keys stands there
pub err_same : {D T E : Type 0} (g : Ghosts D) (p q : Paged D) (r : Result T E) → OnErr r (IsReadOf g p q) → OnErr r (SameAt (keys_of g p) (keys_of g q))
err_same g p q (Ok x) read = tt
err_same g p q (Err e) read = read_same g p q read

-- sound nodes that are only read leave a sound engine
pub read_keeps_sound : {D : Type 0} (g : Ghosts D) (old : EngineState D) (p : Paged D) (walk : Walk) (flushes : ℕ) → IsReadOf g old.pager p → IsSoundOn g old → IsSoundOn g (seen p old.recalled old.log old.live old.stop walk flushes)
read_keeps_sound g old p walk flushes r s =
    sound_same g old (seen p old.recalled old.log old.live old.stop walk flushes) refl (read_sound g old.pager p r (sound_nodes g old s)) (read_same g old.pager p r) s
