-- A key map represents one tree.
use Rattle.std.proofs.Common.{◌≡◌, ℕ, ◌+◌, ◌*◌, ◌/◌, ◌%◌, ◌^◌, ◌<◌, ◌≤◌, List, length, get_or, Option, None, Some, refl, sym, ap, subst, ◌∙◌, arith}
use Rattle.std.specs.Prelude.{IsSome, IfSome}
use Rattle.std.specs.Option.{option_map}
use Rattle.std.specs.FinMap.{get, same_map}
use Rattle.std.proofs.lemmas.List.{ext_get_or}
use Rattle.bd_limits.specs.Limits.{block_limit, file_limit}
use Rattle.bd_names.specs.Names.{AreNames}
use Rattle.bd_model.specs.Tree.{Entry, Directory, FileWith, IsEntry, Tree, IsTree}
use Rattle.bd_model.specs.Step.{file_bytes}
use Rattle.bd_model.proofs.PathOrder.{paths_total, paths_exact}
use Rattle.bd_records.specs.declared.Record.{Record}
use Rattle.bd_records.specs.declared.Record.TheVariants.{Dir, File}
use Rattle.bd_records.proofs.Lengths.{one_record}
use Rattle.bd_message.specs.KeyMaps.{At}
use Rattle.bd_represent.specs.Represents.{record_value, HasBytes, Represents}

-- files of one length with the same blocks are one
one_file : (at : At) (path : List (List ℕ)) (f g : List ℕ) → length f ≡ length g → length f ≤ file_limit → HasBytes at path f → HasBytes at path g → f ≡ g
one_file at path f g same small hf hg = ext_get_or 0 f g same byte
  where
    byte : (n : ℕ) → n < length f → get_or f n 0 ≡ get_or g n 0
    byte n below =
        let whole : block_limit * (n / block_limit) + n % block_limit ≡ n = omega arith in
        let block : n / block_limit < 2 ^ 32 = omega (arith, below, small) in
        let place : n % block_limit < block_limit = omega arith in
        subst (λ (m : ℕ). get_or f m 0 ≡ get_or g m 0) whole
        (hf.bytes (n / block_limit) (n % block_limit) block place ∙ sym (hg.bytes (n / block_limit) (n % block_limit) block place))

-- so are entries of one record
one_entry : (at : At) (path : List (List ℕ)) (a b : Entry) → IsEntry a → IsEntry b → record_value a ≡ record_value b
    → HasBytes at path (file_bytes (Some a)) → HasBytes at path (file_bytes (Some b)) → a ≡ b
one_entry at path (Directory m) (Directory n) ha hb e fa fb =
    let same : Dir m ≡ Dir n = one_record (Dir m) (Dir n) ha hb e in
    let mode : m ≡ n = cc in
    ap Directory mode
one_entry at path (Directory m) (FileWith n g) ha hb e fa fb =
    let same : Dir m ≡ File (length g) n = one_record (Dir m) (File (length g) n) ha (hb.0, hb.2) e in cc
one_entry at path (FileWith m f) (Directory n) ha hb e fa fb =
    let same : File (length f) m ≡ Dir n = one_record (File (length f) m) (Dir n) (ha.0, ha.2) hb e in cc
one_entry at path (FileWith m f) (FileWith n g) ha hb e fa fb =
    let same : File (length f) m ≡ File (length g) n = one_record (File (length f) m) (File (length g) n) (ha.0, ha.2) (hb.0, hb.2) e in
    let long : length f ≡ length g = cc in
    let mode : m ≡ n = cc in
    ap (λ (k : ℕ). FileWith k f) mode ∙ ap (FileWith n) (one_file at path f g long ha.0 fa fb)

-- what stands at a path in one of the trees stands there in the other
pub one_represented : (at : At) (t u : Tree) → IsTree t → IsTree u → Represents at t → Represents at u → t ≡ u
one_represented at t u ht hu rt ru = same_map paths_total paths_exact t u (λ path. by path (get t path) (get u path) refl refl)
  where
    records : (path : List (List ℕ)) (a b : Option Entry) → get t path ≡ a → get u path ≡ b → AreNames path → option_map record_value a ≡ option_map record_value b
    records path a b ea eb names =
        ap (option_map record_value) (sym ea) ∙ sym (rt.records path names) ∙ ru.records path names ∙ ap (option_map record_value) eb

    by : (path : List (List ℕ)) (a b : Option Entry) → get t path ≡ a → get u path ≡ b → get t path ≡ get u path
    by path None None ea eb = ea ∙ sym eb
    by path (Some a) None ea eb =
        let names : AreNames path = ht.names path (subst IsSome (sym ea) refl) in
        let same : Some (record_value a) ≡ None = records path (Some a) None ea eb names in cc
    by path None (Some b) ea eb =
        let names : AreNames path = hu.names path (subst IsSome (sym eb) refl) in
        let same : None ≡ Some (record_value b) = records path None (Some b) ea eb names in cc
    by path (Some a) (Some b) ea eb =
        let names : AreNames path = ht.names path (subst IsSome (sym ea) refl) in
        let values : Some (record_value a) ≡ Some (record_value b) = records path (Some a) (Some b) ea eb names in
        let value : record_value a ≡ record_value b = cc in
        let is_a : IsEntry a = subst (λ (o : Option Entry). IfSome o IsEntry) ea (ht.entries path) in
        let is_b : IsEntry b = subst (λ (o : Option Entry). IfSome o IsEntry) eb (hu.entries path) in
        let has_a : HasBytes at path (file_bytes (Some a)) = subst (λ (o : Option Entry). HasBytes at path (file_bytes o)) ea (rt.files path names) in
        let has_b : HasBytes at path (file_bytes (Some b)) = subst (λ (o : Option Entry). HasBytes at path (file_bytes o)) eb (ru.files path names) in
        ea ∙ ap Some (one_entry at path a b is_a is_b value has_a has_b) ∙ sym eb
