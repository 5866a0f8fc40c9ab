-- What changes of a key map do to the tree that it represents.
use Rattle.std.proofs.Common.{◌≡◌, ◌≢◌, ℕ, List, ◌⊎◌, inl, inr, sym, ap, subst, ◌∙◌}
use Rattle.std.specs.Prelude.{Option, Some, IsSome}
use Rattle.std.specs.Option.{option_map}
use Rattle.std.specs.FinMap.{get, insert}
use Rattle.bd_keys.specs.Keys.{IsKey}
use Rattle.bd_names.specs.Names.{AreNames}
use Rattle.bd_model.specs.Tree.{Entry, Tree}
use Rattle.bd_model.specs.Step.{file_bytes}
use Rattle.bd_model.proofs.PathOrder.{one_or_apart}
use Rattle.bd_model.proofs.TreeGets.{get-insert-at, get-insert-other}
use Rattle.bd_message.specs.KeyMaps.{At}
use Rattle.bd_represent.specs.EntryKeys.{record_key, block_key}
use Rattle.bd_represent.specs.Represents.{record_value, HasBytes, HasOnlyEntries, IsSameBeside, Represents}
use Rattle.bd_represent.proofs.ActLemmas.{IsKey-record_key, IsKey-block_key}
use Rattle.bd_represent.proofs.FileLemmas.{HasBytes-along}

-- maps that have the same at each list of bytes represent the same tree
pub Represents-along : (old new : At) (t : Tree) → ((k : List ℕ) → IsKey k → new k ≡ old k) → Represents old t → Represents new t
Represents-along old new t same r =
    record {
      records = λ path h. same (record_key path) (IsKey-record_key path h) ∙ r.records path h;
      files = λ path h. HasBytes-along old new path (file_bytes (get t path)) (λ i hi. same (block_key path i) (IsKey-block_key path i h)) (r.files path h);
      only = λ k hk some. r.only k hk (subst IsSome (same k hk) some);
    }

-- where the record and the blocks of a path are those of an entry, the entry stands there
pub Represents-insert : (old new : At) (t : Tree) (path : List (List ℕ)) (e : Entry) → Represents old t → IsSameBeside path old new
    → new (record_key path) ≡ Some (record_value e) → HasBytes new path (file_bytes (Some e)) → HasOnlyEntries new → Represents new (insert t path e)
Represents-insert old new t path e r beside here bytes only =
    record { records = λ q hq. records q hq (one_or_apart q path); files = λ q hq. files q hq (one_or_apart q path); only = only }
  where
    records : (q : List (List ℕ)) → AreNames q → (q ≡ path) ⊎ (q ≢ path) → new (record_key q) ≡ option_map record_value (get (insert t path e) q)
    records q hq (inl same) =
        let at_path : new (record_key path) ≡ option_map record_value (get (insert t path e) path) = here ∙ sym (ap (option_map record_value) (get-insert-at t path e)) in
        subst (λ (p : List (List ℕ)). new (record_key p) ≡ option_map record_value (get (insert t path e) p)) (sym same) at_path
    records q hq (inr other) = beside.records q hq other ∙ r.records q hq ∙ sym (ap (option_map record_value) (get-insert-other t path e q other))

    files : (q : List (List ℕ)) → AreNames q → (q ≡ path) ⊎ (q ≢ path) → HasBytes new q (file_bytes (get (insert t path e) q))
    files q hq (inl same) =
        let at_path : HasBytes new path (file_bytes (get (insert t path e) path)) = subst (λ (o : Option Entry). HasBytes new path (file_bytes o)) (sym (get-insert-at t path e)) bytes in
        subst (λ (p : List (List ℕ)). HasBytes new p (file_bytes (get (insert t path e) p))) (sym same) at_path
    files q hq (inr other) =
        subst (λ (o : Option Entry). HasBytes new q (file_bytes o)) (sym (get-insert-other t path e q other))
        (HasBytes-along old new q (file_bytes (get t q)) (λ i hi. beside.blocks q i hq other hi) (r.files q hq))
