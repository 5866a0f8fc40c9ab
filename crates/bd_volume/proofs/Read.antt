-- What is known after calls that only read, and after others.
use Rattle.std.proofs.Common.{◌≡◌, ℕ, Option, None, sym, subst, ap, ◌∙◌}
use Rattle.bd_command.specs.declared.Command.{Command}
use Rattle.bd_model.specs.Tree.{Tree}
use Rattle.bd_message.specs.declared.fault.Counter.{Counter}
use Rattle.bd_message.specs.KeyMaps.{SameAt}
use Rattle.bd_represent.proofs.TreeLemmas.{Represents-along}
use Rattle.bd_device.specs.Blocks.{Image}
use Rattle.bd_device.specs.declared.device.Device.{Ghosts}
use Rattle.bd_node.specs.Tables.{Table, IsSound, root_at}
use Rattle.bd_cover.specs.declared.walking.Reclaim.{Reclaim}
use Rattle.bd_reclaim.specs.Changes.{IsWornChange}
use Rattle.bd_log.specs.Logs.{LogState}
use Rattle.bd_pager.specs.Calling.{read_table}
use Rattle.bd_pager.specs.Places.{Spots, nodes_at}
use Rattle.bd_pager.specs.Pagers.{Paged, spots_of, table_of, IsKnownOver, IsReadOf}
use Rattle.bd_view.specs.Trees.{IsWornToStep}
use Rattle.bd_view.specs.Views.{View}
use Rattle.bd_engine.specs.Engines.{EngineState, keys_of, IsSoundOn, IsWornIn, IsReadOn}
use Rattle.bd_engine.specs.Reclaiming.{IsWornToChange}
use Rattle.bd_volume.specs.declared.volume.Volume.{Volume}
use Rattle.bd_volume.specs.Volume.{StandsFor, IsSafeOn, count_of}

module _ {D : Type 0} (g : Ghosts D) where
  -- ---- reads

  pub read_same : (a b : EngineState D) → IsReadOn g a b → SameAt (keys_of g a.pager) (keys_of g b.pager)
  read_same a b r k = ap (λ (v : View). root_at v.tree.nodes v.tree.table k) r.view

  -- a counter that was worn is so
  pub read_worn : (p q : Paged D) (c : Command) (which : Counter) → IsReadOf g p q → IsWornIn g p c which → IsWornIn g q c which
  read_worn p q c which r h =
      let Is : Option Image → Spots → Table → Type 0 = λ o s t. IsWornToStep (IsKnownOver o s × IsSound (nodes_at o s) t) (nodes_at o s) t c which in
      subst (λ (t : Table). Is (g.contents q.dev) (spots_of q) t) (sym (read_table g p q r))
      (subst (λ (s : Spots). Is (g.contents q.dev) s (table_of p)) (sym r.spots) (subst (λ (o : Option Image). Is o (spots_of p) (table_of p)) (sym r.device.kept) h))

  pub read_change : (p q : Paged D) (step : Reclaim) (which : Counter) → IsReadOf g p q → IsWornToChange g p step which → IsWornToChange g q step which
  read_change p q step which r h =
      let Is : Option Image → Spots → Table → Type 0 = λ o s t. IsWornChange (IsKnownOver o s × IsSound (nodes_at o s) t) (nodes_at o s) t step which in
      subst (λ (t : Table). Is (g.contents q.dev) (spots_of q) t) (sym (read_table g p q r))
      (subst (λ (s : Spots). Is (g.contents q.dev) s (table_of p)) (sym r.spots) (subst (λ (o : Option Image). Is o (spots_of p) (table_of p)) (sym r.device.kept) h))

  -- a record that waits in the log leaves sound nodes
  pub logged_sound : (a b : EngineState D) (log : LogState) → b ≡ record a { log = log } → IsSoundOn g a → IsSoundOn g b
  logged_sound a b log is s = subst (λ (e : EngineState D). IsSoundOn g e) (sym is) (record { known = s.known; sound = s.sound; kept = s.kept })

  -- ---- what a volume stands for

  pub stands_same : (a b : Volume D) (t : Tree) (n : ℕ) → StandsFor g a t n → IsSoundOn g b.engine → SameAt (keys_of g a.engine.pager) (keys_of g b.engine.pager) → count_of b ≡ count_of a → (b.engine.stop ≡ None → IsSafeOn g b.engine t n) → StandsFor g b t n
  stands_same a b t n s sound same count safe = record {
    nodes = sound;
    is_tree = s.is_tree;
    represents = Represents-along (keys_of g a.engine.pager) (keys_of g b.engine.pager) t (λ k key. same k) s.represents;
    count_is = count ∙ s.count_is;
    safe = safe;
  }
