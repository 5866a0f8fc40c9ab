-- How many nodes are kept.
use Rattle.std.proofs.Common.{◌≡◌, ℕ, ◌+◌, ◌≤◌, refl, arith, length, Option, None, Some, IsSome, nat_eq}
use Rattle.std.specs.List.{IsDistinct}
use Rattle.std.specs.Map.{keys_of, lookup}
use Rattle.std.specs.Option.{option_map}
use Rattle.bd_node.specs.Tables.{Table, IsSound, kept_count}
use Rattle.bd_memnodes.specs.declared.kept.Kept.{Kept}
use Rattle.bd_memnodes.specs.Maps.{nodes_in}
use Rattle.bd_memnodes.specs.Stored.{table_in}
use Rattle.bd_node.proofs.KeptCounts.{kept_is}

is_found : {V W : Type 0} (f : V → W) (o : Option V) (w : W) → option_map f o ≡ Some w → IsSome o
is_found f None w is = cc
is_found f (Some v) w is = refl

is_lost : {V W : Type 0} (f : V → W) (o : Option V) → option_map f o ≡ None → IsSome o → ⊥
is_lost f None is some = cc
is_lost f (Some v) is some = cc

counted : (count : ℕ) → (count ≡ 0 → ⊥) → 1 ≤ count
counted count some = omega (arith, some)

-- so many nodes stand in sound ones
pub kept_in : (kept : Kept) → IsDistinct nat_eq (keys_of kept.nodes.entries) → IsSound (nodes_in kept.nodes) (table_in kept) → kept_count (table_in kept) ≡ length kept.nodes.entries
unfolding kept_count
kept_in kept distinct sound =
    let t : Table = table_in kept in
    let found : (q : ℕ) → 1 ≤ t.count q → IsSome (lookup (nat_eq q) kept.nodes.entries) = λ q named.
    is_found (λ shared. shared.value) (lookup (nat_eq q) kept.nodes.entries) (sound.each q named).node (sound.each q named).there in
    let named : (q : ℕ) → IsSome (lookup (nat_eq q) kept.nodes.entries) → 1 ≤ t.count q = λ q some.
    counted (t.count q) (λ none. is_lost (λ shared. shared.value) (lookup (nat_eq q) kept.nodes.entries) (sound.others q none) some) in
    kept_is kept.next kept.nodes.entries t.count distinct (λ q some. (sound.table.below q (named q some), named q some)) found
