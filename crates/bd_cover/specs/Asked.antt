-- What an edge asks its child for.
use Rattle.std.specs.Prelude.{ℕ, ◌+◌, ◌==◌, Bool, true, if◌then◌else◌, List, [], ◌∷◌, ◌++◌, take, drop, Option, None, Some}
use Rattle.std.specs.Option.{option_map}
use Rattle.std.specs.Ordering.{is_lt}
use Rattle.bd_keys.specs.Keys.{key_cmp}
use Rattle.bd_keys.specs.declared.range.Range.{Range}
use Rattle.bd_message.specs.Effect.{begins}
use Rattle.bd_node.specs.declared.node.Edge.{Edge}
use Rattle.bd_cover.specs.declared.asking.Ask.{Ask}

-- the later of two keys
abbrev pub later : List ℕ → List ℕ → List ℕ
later k l = if is_lt (key_cmp k l) then l else k

-- the earlier of two ends
abbrev pub earlier : Option (List ℕ) → Option (List ℕ) → Option (List ℕ)
earlier None hi = hi
earlier (Some end) None = Some end
earlier (Some end) (Some hi) = if is_lt (key_cmp end hi) then Some end else Some hi

-- the key is below the end
abbrev pub is_below_end : List ℕ → Option (List ℕ) → Bool
is_below_end k None = true
is_below_end k (Some hi) = is_lt (key_cmp k hi)

-- where the keys of a byte and then others end, and where those others do
abbrev pub end_from : ℕ → Option (List ℕ) → Option (List ℕ)
end_from byte None = if byte == 255 then None else Some ((byte + 1) ∷ [])
end_from byte (Some end) = Some (byte ∷ end)

-- where the keys that begin with a prefix end: at the prefix up to its last byte that isn't 255,
-- with that byte one greater; nowhere where each byte is 255
abbrev pub prefix_end : List ℕ → Option (List ℕ)
prefix_end [] = None
prefix_end (byte ∷ prefix) = end_from byte (prefix_end prefix)

-- where the keys end that an edge asks its child for, if its own end there: at that end's
-- translation, if the end begins as the edge's keys do, and else where all keys that begin with the
-- source end
abbrev pub asked_end : Edge → Option (List ℕ) → Option (List ℕ)
asked_end e None = prefix_end e.source
asked_end e (Some hi) =
    if begins hi (take e.lift e.pivot) then Some (e.source ++ drop e.lift hi)
    else prefix_end e.source

-- the keys that an edge asks its child for, if its own are those that are at least `lo` and below
-- `hi`
abbrev pub asked_keys : Edge → List ℕ → Option (List ℕ) → Range
asked_keys e lo hi = record { lo = e.source ++ drop e.lift lo; hi = asked_end e hi }

-- what an edge asks its child, if its keys are those that are at least `lo` and below `hi`: nothing
-- where there are none
abbrev pub asks_between : Edge → List ℕ → Option (List ℕ) → Option Ask
asks_between e lo hi =
    if is_below_end lo hi
    then option_map (λ child. record { child = child; keys = asked_keys e lo hi }) e.child
    else None

-- what an edge, whose keys end there, asks its child, where it is asked for the keys that are at
-- least `lo` and below `hi`
unfoldable pub asks : Edge → Option (List ℕ) → List ℕ → Option (List ℕ) → Option Ask
asks e end lo hi = asks_between e (later e.pivot lo) (earlier end hi)
