-- What is kept of look-ups.
use Rattle.std.specs.Prelude.{◌≡◌, ◌⊎◌, ℕ, Bool, not, false, ◌&&◌, List, [], Option, None, Some, IfSome}
use Rattle.std.specs.BTreeMap.{is_at}
use Rattle.std.specs.List.{find}
use Rattle.std.specs.Option.{option_map}
use Rattle.bd_keys.specs.Keys.{IsKey, key_cmp}
use Rattle.bd_message.specs.KeyMaps.{At}
use Rattle.bd_message.specs.Effect.{acts, begins, no_nodes, same_key}
use Rattle.bd_message.specs.declared.message.Message.{Message}
pub use Rattle.bd_recall.specs.Sizes.{Found, Findings, bytes_of}
use Rattle.bd_recall.specs.declared.recalled.Recalled.{Recalled}

-- what is kept
abbrev pub findings : Recalled → Findings
findings r = r.found.keys

-- what is kept for a key, that it was found with a value or with none
abbrev pub kept_for : Findings → List ℕ → Option (Option (List ℕ))
kept_for fs k = option_map (λ f. f.1) (find (is_at (λ f. key_cmp k f.0)) fs)

-- what is kept is what stands there
abbrev pub IsKept : At → Findings → Type 0
IsKept at fs = (k : List ℕ) → IsKey k → IfSome (kept_for fs k) (λ found. at k ≡ found)

-- it has no entry, and nothing counts
abbrev pub IsEmpty : Recalled → Type 0
IsEmpty r = (findings r ≡ []) × (r.taken ≡ 0)

-- nothing is kept
abbrev pub KeepsNone : Findings → Type 0
KeepsNone fs = (k : List ℕ) → kept_for fs k ≡ None

-- what is kept was kept before
abbrev pub KeepsFewer : Findings → Findings → Type 0
KeepsFewer old new = (k : List ℕ) → IfSome (kept_for new k) (λ found. kept_for old k ≡ Some found)

-- what is kept was kept before, for another key
abbrev pub KeepsOthers : Findings → List ℕ → Findings → Type 0
KeepsOthers old k new = (q : List ℕ) → IfSome (kept_for new q)
    (λ found. (kept_for old q ≡ Some found) × (same_key q k ≡ false))

-- what is kept was kept before, or is this value of this key
abbrev pub KeepsOne : Findings → List ℕ → Option (List ℕ) → Findings → Type 0
KeepsOne old k value new = (q : List ℕ) → IfSome (kept_for new q)
    (λ found. (kept_for old q ≡ Some found) ⊎ ((q ≡ k) × (found ≡ value)))

-- what is kept was kept before for another key, or is this value of this key
abbrev pub KeepsInstead : Findings → List ℕ → Option (List ℕ) → Findings → Type 0
KeepsInstead old k value new = (q : List ℕ) → IfSome (kept_for new q)
    (λ found. ((kept_for old q ≡ Some found) × (same_key q k ≡ false))
    ⊎ ((q ≡ k) × (found ≡ value)))

-- what is kept was kept before, where messages leave what stands there, or is what they leave there
-- whatever stood there
abbrev pub KeepsWritten : Findings → List Message → Findings → Type 0
KeepsWritten old list new = (k : List ℕ) → IfSome (kept_for new k)
    (λ found. ((kept_for old k ≡ Some found) × ((o : Option (List ℕ)) → acts no_nodes list k o ≡ o))
    ⊎ ((o : Option (List ℕ)) → acts no_nodes list k o ≡ found))

-- what is kept was kept before, for a key that doesn't begin with a prefix
abbrev pub KeepsOutside : Findings → List ℕ → Findings → Type 0
KeepsOutside old prefix new = (k : List ℕ) → IfSome (kept_for new k)
    (λ found. (kept_for old k ≡ Some found) × (begins k prefix ≡ false))

-- what is kept was kept before, for a key at which a graft leaves what stands there: one that begins
-- with neither prefix, or not with the destination where the source stays
abbrev pub KeepsUngrafted : Findings → List ℕ → List ℕ → Bool → Findings → Type 0
KeepsUngrafted old s d keep new = (k : List ℕ) → IfSome (kept_for new k)
    (λ found. (kept_for old k ≡ Some found) × (begins k d ≡ false)
    × ((not keep && begins k s) ≡ false))
