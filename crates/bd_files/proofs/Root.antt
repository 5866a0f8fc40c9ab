-- What the record of `/` alone makes of a map that has nothing.
use Rattle.std.proofs.Common.{◌≡◌, ℕ, ◌+◌, ◌*◌, List, [], ◌∷◌, refl, sym, ap, subst, ◌∙◌}
use Rattle.std.specs.Prelude.{Option, None, IfSome, slice_index}
use Rattle.std.specs.Option.{option_map, unwrap_or}
use Rattle.std.specs.FinMap.{empty, get-empty}
use Rattle.bd_limits.specs.Limits.{block_limit}
use Rattle.bd_keys.specs.Keys.{IsKey}
use Rattle.bd_names.specs.Names.{AreNames}
use Rattle.bd_model.specs.Tree.{Entry, Directory, root_only, path_cmp}
use Rattle.bd_model.specs.Step.{file_bytes}
use Rattle.bd_records.specs.declared.Record.TheVariants.{Dir}
use Rattle.bd_records.specs.Records.{record_bytes}
use Rattle.bd_message.specs.declared.message.Message.{Message}
use Rattle.bd_message.specs.declared.message.Message.TheVariants.{Put}
use Rattle.bd_message.specs.Effect.{acts, no_nodes}
use Rattle.bd_message.specs.KeyMaps.{At, IsApplied}
use Rattle.bd_represent.specs.EntryKeys.{record_key, block_key}
use Rattle.bd_represent.specs.Represents.{record_value, HasBytes, IsBlockOf, Represents}
use Rattle.bd_represent.proofs.ActLemmas.{put-here, IsKey-record_key, IsKey-block_key}
use Rattle.bd_represent.proofs.FileLemmas.{HasBytes-along}
use Rattle.bd_represent.proofs.TreeLemmas.{Represents-along, Represents-insert}
use Rattle.bd_files.proofs.Writes.{put_at, put_only, put_beside, put_blocks}

-- nothing stands at any key
abbrev HasNone : At → Type 0
HasNone at = (k : List ℕ) → IsKey k → at k ≡ None

no_bytes : (at : At) (path : List (List ℕ)) → HasNone at → AreNames path → HasBytes at path []
no_bytes at path none names = record {
  blocks = λ i hi. subst (λ (o : Option (List ℕ)). IfSome o (IsBlockOf [] i)) (sym (none (block_key path i) (IsKey-block_key path i names))) tt;
  bytes = λ i j hi hj. subst (λ (o : Option (List ℕ)). slice_index [] (block_limit * i + j) ≡ slice_index (unwrap_or o []) j) (sym (none (block_key path i) (IsKey-block_key path i names))) refl;
}

-- a map that has nothing represents a tree without paths
nothing : (at : At) → HasNone at → Represents at empty
nothing at none = record {
  records = λ path names. none (record_key path) (IsKey-record_key path names) ∙ sym (ap (option_map record_value) (get-empty path_cmp path));
  files = λ path names. subst (λ (o : Option Entry). HasBytes at path (file_bytes o)) (sym (get-empty path_cmp path)) (no_bytes at path none names);
  only = λ k key some. let none_at = none k key in cc;
}

-- with the record of `/` it represents `/` alone
pub root_made : (at new : At) (list : List Message) → HasNone at → list ≡ Put (record_key []) (record_bytes (Dir 0)) ∷ [] → IsApplied at list new → Represents new root_only
root_made at new list none is applied =
    let value = record_bytes (Dir 0) in
    let mid : At = put_at [] value at in
    let bytes : HasBytes mid [] [] = HasBytes-along at mid [] [] (λ i hi. put_blocks [] value at i refl) (no_bytes at [] none refl) in
    Represents-along mid new root_only (subst (λ (ms : List Message). (k : List ℕ) → IsKey k → new k ≡ acts no_nodes ms k (at k)) is applied)
    (Represents-insert at mid empty [] (Directory 0) (nothing at none) (put_beside [] value at refl) (put-here (record_key []) value (at (record_key []))) bytes (put_only [] value at refl (nothing at none).only))
