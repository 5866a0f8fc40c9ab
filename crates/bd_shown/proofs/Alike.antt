-- Calls that leave the view.
use Rattle.std.proofs.Common.{◌≡◌, ℕ, length, ap}
use Rattle.bd_device.specs.declared.device.Device.{Ghosts}
use Rattle.bd_graft.specs.declared.grafting.Walk.{Walk}
use Rattle.bd_pager.specs.Calling.{read_table}
use Rattle.bd_pager.specs.Moving.{Spills}
use Rattle.bd_pager.specs.Places.{nodes_at}
use Rattle.bd_pager.specs.Pagers.{Paged, table_of, nodes_of, IsReadOf}
use Rattle.bd_shown.specs.Shown.{ids_of, shown}

module _ {D : Type 0} (g : Ghosts D) (old new : Paged D) (walk : Walk) (version epoch place waiting : ℕ) where
  -- where nodes, table, checkpoint and slots are the same
  same_view : nodes_of g new ≡ nodes_of g old → table_of new ≡ table_of old → new.saved ≡ old.saved → new.spare ≡ old.spare → shown g new walk version epoch place waiting ≡ shown g old walk version epoch place waiting
  same_view nodes table saved spare = λ i. record {
    tree = record { nodes = nodes i; table = table i; walk = walk };
    saved = ids_of (saved i).entries;
    slots = length (spare i);
    version = version;
    epoch = epoch;
    place = place;
    waiting = waiting;
  }

  pub read_shown : IsReadOf g old new → shown g new walk version epoch place waiting ≡ shown g old walk version epoch place waiting
  read_shown r = same_view (λ i. nodes_at (r.device.kept i) (r.spots i)) (read_table g old new r) (ap (λ (p : Paged D). p.saved) r.rest) (ap (λ (p : Paged D). p.spare) r.rest)

  pub spill_shown : table_of new ≡ table_of old → ((id : ℕ) → nodes_of g new id ≡ nodes_of g old id) → Spills g old new → shown g new walk version epoch place waiting ≡ shown g old walk version epoch place waiting
  spill_shown table nodes r = same_view (λ i id. nodes id i) table (ap (λ (p : Paged D). p.saved) r.rest) (ap (λ (p : Paged D). p.spare) r.rest)
