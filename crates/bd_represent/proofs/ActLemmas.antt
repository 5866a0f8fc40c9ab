-- What a message does at its key and at others, and which keys are lists of bytes.
use Rattle.std.proofs.Common.{◌≡◌, ◌≢◌, ℕ, zero, suc, ◌<◌, ◌≤◌, true, false, List, [], ◌∷◌, ◌++◌, arith}
use Rattle.std.specs.Prelude.{Option, Some, nat_le, not, ◌&&◌, ◌==◌}
use Rattle.std.specs.List.{list_all}
use Rattle.std.specs.Option.{unwrap_or}
use Rattle.std.specs.Int.{w32}
use Rattle.std.proofs.lemmas.Bool.{and_parts, leb-true, false_from_ne_true}
use Rattle.bd_wire.specs.Numbers.{be}
use Rattle.bd_wire.proofs.NumberLemmas.{IsBytes-bytes_high_first}
use Rattle.bd_keys.specs.Edits.{overwritten}
use Rattle.bd_keys.specs.Keys.{IsKey}
use Rattle.bd_names.specs.Names.{is_name_byte, AreNames, key_of}
use Rattle.bd_names.proofs.NamesLaws.{AreNames-cons, is_name-bytes, key_of-cons}
use Rattle.bd_message.specs.declared.message.Message.TheVariants.{Put, Patch}
use Rattle.bd_message.specs.Effect.{same_key, act, no_nodes}
use Rattle.bd_message.proofs.Finds.{same_key-true, same_key-refl}
use Rattle.bd_represent.specs.EntryKeys.{record_key, block_key}

-- ---- keys are lists of bytes

pub IsKey-append : (k l : List ℕ) → IsKey k → IsKey l → IsKey (k ++ l)
IsKey-append [] l hk hl i = hl i
IsKey-append (b ∷ k) l hk hl zero = hk zero
IsKey-append (b ∷ k) l hk hl (suc i) = IsKey-append k l (λ j. hk (suc j)) hl i

pub IsKey-rest : (k l : List ℕ) → IsKey (k ++ l) → IsKey l
IsKey-rest [] l h = h
IsKey-rest (b ∷ k) l h = IsKey-rest k l (λ i. h (suc i))

IsKey-nil : IsKey []
IsKey-nil i = omega arith

IsKey-cons : (b : ℕ) (k : List ℕ) → b < 256 → IsKey k → IsKey (b ∷ k)
IsKey-cons b k hb hk zero = hb
IsKey-cons b k hb hk (suc i) = hk i

byte_of_name : (b : ℕ) → is_name_byte b ≡ true → b < 256
byte_of_name b h =
    let parts = and_parts (nat_le b 255) (not (b == 47) && not (b == 127)) (and_parts (nat_le 33 b) (nat_le b 255 && (not (b == 47) && not (b == 127))) h).1 in
    let le : b ≤ 255 = leb-true b 255 parts.0 in
    omega arith

bytes_of_name : (n : List ℕ) → list_all is_name_byte n ≡ true → IsKey n
bytes_of_name [] h = IsKey-nil
bytes_of_name (b ∷ n) h =
    let parts = and_parts (is_name_byte b) (list_all is_name_byte n) h in
    IsKey-cons b n (byte_of_name b parts.0) (bytes_of_name n parts.1)

pub IsKey-key_of : (p : List (List ℕ)) → AreNames p → IsKey (key_of p)
IsKey-key_of [] h = IsKey-nil
IsKey-key_of (n ∷ p) h =
    let names = AreNames-cons n p h in
    rw (key_of-cons n p) (IsKey-append n (0 ∷ key_of p) (bytes_of_name n (is_name-bytes n names.0)) (IsKey-cons 0 (key_of p) (omega arith) (IsKey-key_of p names.1)))

pub IsKey-record_key : (p : List (List ℕ)) → AreNames p → IsKey (record_key p)
IsKey-record_key p h = IsKey-append (key_of p) (0 ∷ 0 ∷ []) (IsKey-key_of p h) (IsKey-cons 0 (0 ∷ []) (omega arith) (IsKey-cons 0 [] (omega arith) IsKey-nil))

IsKey-be : (i : ℕ) → IsKey (be w32 i)
unfolding be
IsKey-be i = IsBytes-bytes_high_first 4 i

pub IsKey-block_key : (p : List (List ℕ)) (i : ℕ) → AreNames p → IsKey (block_key p i)
IsKey-block_key p i h = IsKey-append (key_of p) (0 ∷ 1 ∷ be w32 i) (IsKey-key_of p h) (IsKey-cons 0 (1 ∷ be w32 i) (omega arith) (IsKey-cons 1 (be w32 i) (omega arith) (IsKey-be i)))

-- ---- messages at their key and at others

other_key : (k key : List ℕ) → k ≢ key → same_key k key ≡ false
other_key k key ne = false_from_ne_true (same_key k key) (λ h. ne (same_key-true k key h))

pub put-here : (key value : List ℕ) (old : Option (List ℕ)) → act no_nodes (Put key value) key old ≡ Some value
put-here key value old = rw (same_key-refl key)

pub put-other : (key value k : List ℕ) (old : Option (List ℕ)) → k ≢ key → act no_nodes (Put key value) k old ≡ old
put-other key value k old ne = rw (other_key k key ne)

pub patch-here : (key : List ℕ) (off : ℕ) (bytes : List ℕ) (old : Option (List ℕ)) → act no_nodes (Patch key off bytes) key old ≡ Some (overwritten (unwrap_or old []) off bytes)
patch-here key off bytes old = rw (same_key-refl key)

pub patch-other : (key : List ℕ) (off : ℕ) (bytes k : List ℕ) (old : Option (List ℕ)) → k ≢ key → act no_nodes (Patch key off bytes) k old ≡ old
patch-other key off bytes k old ne = rw (other_key k key ne)
