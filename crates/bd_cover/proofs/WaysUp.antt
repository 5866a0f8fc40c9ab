-- The way that the walk has come, upwards.
use Rattle.std.proofs.Common.{◌≡◌, ℕ, List, [], ◌∷◌, ◌++◌, Some}
use Rattle.std.specs.List.{AllByRecursion}
use Rattle.bd_node.specs.declared.node.Edge.{Edge}
use Rattle.bd_node.specs.Meaning.{Nodes}
use Rattle.bd_node.specs.Tables.{Table, IsSound}
use Rattle.bd_path.specs.declared.fetching.Fetched.{Fetched}
use Rattle.bd_path.specs.Fetching.{IsFetched, IsContents, IsEdgeTo, AreOwn}
use Rattle.bd_path.specs.Raising.{IsWayUp}
use Rattle.bd_path.specs.Raising.IsWayUp.{top, one_up as further_up}
use Rattle.bd_path.proofs.RisingSteps.{way_link, way_private}
use Rattle.bd_cover.specs.Walking.{IsWayBetween}
use Rattle.bd_cover.specs.Walking.IsWayBetween.{at_top, one_up}

-- one more node, above the uppermost
pub way_longer : (t : Table) (c x place : ℕ) (way : List Fetched) (f : Fetched) (e : Edge) → IsWayBetween t c x way → IsFetched t f → IsEdgeTo f.node.value place c e → t.count c ≡ 1 → IsWayBetween t f.id x (way ++ (f ∷ []))
way_longer t c _ place _ f e at_top fetched edge once = one_up c place f e [] fetched edge once at_top
way_longer t c _ place _ f e (one_up x i g d way own asks alone rest) fetched edge once = one_up x i g d (way ++ (f ∷ [])) own asks alone (way_longer t c g.id place way f e rest fetched edge once)

-- up to the root
pub way_up : (t : Table) (x : ℕ) (way : List Fetched) → IsWayBetween t t.root x way → IsWayUp t x way
way_up t _ _ at_top = top
way_up t _ _ (one_up x i f e way fetched edge once rest) = further_up x i f e way fetched edge once (way_up t f.id way rest)

pub contents_more : (nodes : Nodes) (way : List Fetched) (f : Fetched) → AllByRecursion (IsContents nodes) way → nodes f.id ≡ Some f.node.value → AllByRecursion (IsContents nodes) (way ++ (f ∷ []))
contents_more nodes [] f all there = (there, tt)
contents_more nodes (g ∷ way) f all there = (all.0, contents_more nodes way f all.1 there)

-- each of the nodes above is private
pub way_own : (nodes : Nodes) (t : Table) (x : ℕ) (way : List Fetched) → IsSound nodes t → IsWayUp t x way → AllByRecursion (IsContents nodes) way → AreOwn nodes t way
way_own nodes t x [] sound up all = tt
way_own nodes t x (f ∷ way) sound up all =
    let rest : IsWayUp t f.id way = (way_link t x f way up).1 in (
      record { private = way_private nodes t f.id way sound rest all.1; there = all.0 },
      way_own nodes t f.id way sound rest all.1,
    )
