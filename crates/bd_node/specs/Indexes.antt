-- Indexes as the program holds them.
use Rattle.std.specs.Prelude.{◌≡◌, Option, None, Some, ⊤}
use Rattle.bd_node.specs.declared.index.Index.{Index}

-- the copy has the same places, if there are any
abbrev pub IsCopy : Option Index → Option Index → Type 0
IsCopy None None = ⊤
IsCopy None (Some b) = ⊥
IsCopy (Some a) None = ⊥
IsCopy (Some a) (Some b) = (b.points.items ≡ a.points.items) × (b.ranges.items ≡ a.ranges.items)
    × (b.stems.items ≡ a.stems.items)
