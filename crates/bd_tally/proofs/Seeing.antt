-- Counts once nodes were seen.
use Rattle.std.proofs.Common.{◌≡◌, ℕ, ◌+◌, List, [], ◌∷◌, ◌++◌, map, ap, ◌∙◌, Some, arith}
use Rattle.std.proofs.lemmas.List.Sums.{sum_by_push}
use Rattle.std.proofs.lemmas.Simd.{map-map}
use Rattle.bd_node.specs.declared.node.Node.{Node}
use Rattle.bd_node.specs.Nodes.{names}
use Rattle.bd_node.specs.Meaning.{Nodes}
use Rattle.bd_node.specs.Tables.{times_in, one_if}
use Rattle.bd_node.proofs.Sound.{times_there}
use Rattle.bd_table.specs.declared.table.Table.{Table as StoredTable}
use Rattle.bd_table.specs.declared.table.TableEntry.{TableEntry}
use Rattle.bd_counts.specs.Naming.{times_among}
use Rattle.bd_counts.proofs.Names.{times_among-one}
use Rattle.bd_tally.specs.Ids.{named_by}
use Rattle.bd_tally.specs.Counts.{first_count, count_after, counts_after}
use Rattle.bd_tally.specs.Seen.{HasSeen, named_so_far}
use Rattle.bd_tally.specs.declared.count.Count.{Count}
use Rattle.bd_tally.proofs.CountLemmas.{map_alike, count_after-count_after}

module _ (nodes : Nodes) (t : StoredTable) where
  -- the count of an entry once some nodes were seen
  abbrev count_seen : List ℕ → TableEntry → Count
  count_seen seen e = count_after (named_so_far nodes t seen e.id) (first_count e)

  -- before any node was seen the root's pointer is all that names
  pub seen_none : HasSeen nodes t [] (counts_after (t.root ∷ []) (map first_count t.entries))
  seen_none =
      map-map (λ (c : Count). count_after (times_among (t.root ∷ []) c.id) c) first_count t.entries
      ∙ map_alike (λ (e : TableEntry). count_after (times_among (t.root ∷ []) e.id) (first_count e)) (count_seen [])
      (λ e.
      let root : times_among (t.root ∷ []) e.id ≡ one_if t.root e.id = times_among-one t.root e.id in
      let is : times_among (t.root ∷ []) e.id ≡ named_so_far nodes t [] e.id = root ∙ omega arith in
      ap (λ (n : ℕ). count_after n (first_count e)) is) t.entries

  -- one node more
  pub seen_more : (seen : List ℕ) (id : ℕ) (n : Node) (old new : List Count) → HasSeen nodes t seen old → nodes id ≡ Some n
      → new ≡ counts_after (names n) old → HasSeen nodes t (seen ++ id ∷ []) new
  seen_more seen id n old new before there after =
      after ∙ ap (counts_after (names n)) before
      ∙ map-map (λ (c : Count). count_after (times_among (names n) c.id) c) (count_seen seen) t.entries
      ∙ map_alike (λ (e : TableEntry). count_after (times_among (names n) e.id) (count_seen seen e)) (count_seen (seen ++ id ∷ [])) step t.entries
    where
      step : (e : TableEntry) → count_after (times_among (names n) e.id) (count_seen seen e) ≡ count_seen (seen ++ id ∷ []) e
      step e =
          let pushed : named_by nodes (seen ++ id ∷ []) e.id ≡ named_by nodes seen e.id + times_in (nodes id) e.id = sum_by_push (λ (i : ℕ). times_in (nodes i) e.id) seen id in
          let here : times_in (nodes id) e.id ≡ times_among (names n) e.id = times_there nodes id e.id n there in
          let sum : named_so_far nodes t seen e.id + times_among (names n) e.id ≡ named_so_far nodes t (seen ++ id ∷ []) e.id = omega arith in
          count_after-count_after (named_so_far nodes t seen e.id) (times_among (names n) e.id) (first_count e)
          ∙ ap (λ (k : ℕ). count_after k (first_count e)) sum
