-- Records of commands, put together and taken apart.
use Rattle.std.proofs.Common.{◌≡◌, ℕ, List, [], ◌∷◌, ◌++◌, map, refl, sym, ap, subst, ◌∙◌}
use Rattle.std.proofs.lemmas.List.{map-append}
use Rattle.bd_model.specs.Tree.{Tree}
use Rattle.bd_model.specs.Laws.{after}
use Rattle.bd_log.specs.declared.batch.Batch.{Batch}
use Rattle.bd_image.specs.ImageTree.{LeadsOn, records_of}
use Rattle.bd_image.specs.Damage.{PlacedRecord, placed_records, unplaced}

-- records that lead on from where others led
pub leads_more : (version : ℕ) (rs qs : List (List ℕ)) (t u v : Tree) → LeadsOn version rs t u → LeadsOn version qs u v → LeadsOn version (rs ++ qs) t v
leads_more version [] qs t u v h k = subst (λ (x : Tree). LeadsOn version qs x v) (sym h) k
leads_more version (r ∷ rs) qs t u v h k = (h.0, h.1, h.2, h.3, leads_more version rs qs (after t h.0) u v h.4 k)

-- the first records lead to a tree, from which the others lead on
pub leads_apart : (version : ℕ) (rs qs : List (List ℕ)) (t v : Tree) → LeadsOn version (rs ++ qs) t v → (u : Tree) × LeadsOn version rs t u × LeadsOn version qs u v
leads_apart version [] qs t v h = (t, refl, h)
leads_apart version (r ∷ rs) qs t v h =
    let rest = leads_apart version rs qs (after t h.0) v h.4 in
    (rest.0, (h.0, h.1, h.2, h.3, rest.1), rest.2)

-- the records of placed ones are those of the batches
alone : (body : ℕ) (rs : List (List ℕ)) → unplaced (map (λ r. (body, r)) rs) ≡ rs
alone body [] = refl
alone body (r ∷ rs) = ap (λ qs. r ∷ qs) (alone body rs)

pub records_placed : (batches : List Batch) → unplaced (placed_records batches) ≡ records_of batches
records_placed [] = refl
records_placed (batch ∷ batches) =
    map-append (λ (p : PlacedRecord). p.1) (map (λ r. (batch.body, r)) batch.records) (placed_records batches)
    ∙ ap (λ rs. rs ++ unplaced (placed_records batches)) (alone batch.body batch.records)
    ∙ ap (λ rs. batch.records ++ rs) (records_placed batches)

-- a record stands among those of the batches, after others
pub records_split : (batches : List Batch) (front : List PlacedRecord) (b : ℕ) (r : List ℕ) (rest : List PlacedRecord) → placed_records batches ≡ front ++ (b, r) ∷ rest
    → records_of batches ≡ unplaced front ++ r ∷ unplaced rest
records_split batches front b r rest there =
    sym (records_placed batches) ∙ ap unplaced there ∙ map-append (λ (p : PlacedRecord). p.1) front ((b, r) ∷ rest)
