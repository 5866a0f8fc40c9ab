-- What is known while the next superblock is published and after it.
use Rattle.std.proofs.Common.{◌≡◌, ℕ, ◌+◌, ◌≤◌, inl, inr, List, [], Option, None, Some, IfSome, refl, sym, ap, subst, ◌∙◌, arith}
use Rattle.std.specs.Prelude.{IsSomeAnd}
use Rattle.bd_model.specs.Tree.{Tree}
use Rattle.bd_slots.specs.Layout.{image_blocks}
use Rattle.bd_device.specs.Blocks.{Image}
use Rattle.bd_device.specs.Changes.{SameBut}
use Rattle.bd_device.specs.Commits.{IsCommitted}
use Rattle.bd_device.specs.Moments.{IsOnly}
use Rattle.bd_node.specs.Meaning.{Nodes}
use Rattle.bd_table.specs.declared.table.Table.{Table as StoredTable}
use Rattle.bd_super.specs.Superblocks.{IsSuper, log_block, other, version_number}
use Rattle.bd_super.specs.Live.{IsLive}
use Rattle.bd_super.specs.Published.{IsOfHalf, SameLive, CanFollow, IsPublished, IsStagedOrPublished, AreSettled, SameSuperblocks}
use Rattle.bd_super.specs.declared.superblock.Super.{Super}
use Rattle.bd_super.proofs.LiveLemmas.{one_live, other_twice}
use Rattle.bd_log.specs.Logs.{LogState, fresh_log}
use Rattle.bd_image.specs.Versions.{version_of}
use Rattle.bd_image.specs.ImageTree.{HaveTree, ImageStandsFor}
use Rattle.bd_image.specs.Standing.{StandsAs, IsOldOrNew}
use Rattle.bd_image.specs.Used.{used_slots, SameSlots}
use Rattle.bd_image.proofs.Checkpoints.{not_slot, staged, published}
use Rattle.bd_image.proofs.Frame.{table_same}
use Rattle.bd_checkpoint.specs.Kept.{Saved, StartsAs, IsOpen, AllStandFor}
use Rattle.bd_checkpoint.specs.Following.{super_after, IsNext, HasTableOf, AreWritten, saved_by}

-- ---- the next superblock

beside : (live next : Super) → IsNext live next → next.half ≡ other live.half
beside live next follows = ap (λ (s : Super). s.half) follows

beside_live : (live next : Super) → IsNext live next → live.half ≡ other next.half
beside_live live next follows = sym (other_twice live.half) ∙ ap other (sym (beside live next follows))

pub same_slots : (live next : Super) → IsNext live next → next.slots ≡ live.slots
same_slots live next follows = ap (λ (s : Super). s.slots) follows

pub of_today : (live next : Super) → IsNext live next → 2 ≤ version_of next
of_today live next follows = omega (arith, ap (λ (s : Super). version_number s.version) follows)

pub can_follow : (known : Option Image) (live next : Super) → IsNext live next → IfSome known (λ image. IsLive image live) → IfSome known (CanFollow next)
can_follow None live next follows is = tt
can_follow (Some image) live next follows is =
    let epoch : next.epoch ≡ live.epoch + 1 = ap (λ (s : Super). s.epoch) follows in
    inr (live, is, beside_live live next follows, omega (arith, epoch))

-- ---- what an image stands for

-- staged: all that an image of before stands for
as_staged : (live next : Super) (saved : Saved) (place : ℕ) (old new : Image) → IsNext live next → StartsAs live saved place old → SameBut (IsOfHalf next.half) old new → SameLive old new
    → StandsAs old new
as_staged live next saved place old new follows starts same same_live = λ tree count stands.
    let (s, t, p, h) = stands in
    let super : s ≡ live = one_live old s live h.starts.live starts.live_is in
    let half : s.half ≡ other next.half = ap (λ (x : Super). x.half) super ∙ beside_live live next follows in
    (s, t, p, staged next.half s t p tree count old new half same same_live h)

-- published: the tree of the nodes that were written
as_new : (known : Option Image) (next : Super) (t : StoredTable) (nodes : Nodes) (tree : Tree) (new : Image) → 2 ≤ version_of next → AreWritten known next t nodes tree → IsPublished next known new
    → ImageStandsFor tree next.count new
as_new None next t nodes tree new today written is = absurd is.outside
as_new (Some old) next t nodes tree new today written is =
    let have : HaveTree (version_of next) t nodes tree = record {
      sound = written.have.sound;
      is_tree = written.have.is_tree;
      of_version = λ low. absurd (omega (arith, low, today));
      represents = written.have.represents;
    } in
    (next, t, 0, published next t nodes tree old new is written.table written.stored have)

pub old_or_new : (known : Option Image) (before : Image → Type 0) (count : ℕ) (live next : Super) (saved : Saved) (log : LogState) (t : StoredTable) (nodes : Nodes) (tree : Tree)
    → IsNext live next → IsOpen known before count live saved log → AreWritten known next t nodes tree
    → (c : Image) → IsStagedOrPublished next known before c → IsOldOrNew before tree next.count c
old_or_new known before count live next saved log t nodes tree follows given written c (inl is) =
    inl (is.old, is.was, as_staged live next saved log.place is.old c follows (given.each is.old is.was) is.outside is.live)
old_or_new known before count live next saved log t nodes tree follows given written c (inr is) =
    inr (as_new known next t nodes tree c (of_today live next follows) written is)

-- ---- once it is Ok

-- what holds of what reads give holds of the one image that is left
pub of_left : (P : Image → Type 0) (now : Option Image) (c : Image) → IfSome now P → now ≡ Some c → P c
of_left P now c is same = subst (λ (o : Option Image). IfSome o P) same is

pub all_new : (known now : Option Image) (left : Image → Type 0) (next : Super) (t : StoredTable) (nodes : Nodes) (tree : Tree) → 2 ≤ version_of next → AreWritten known next t nodes tree
    → IfSome now (IsPublished next known) → IsOnly now left → AllStandFor tree next.count left
all_new known now left next t nodes tree today written is only =
    λ c was. as_new known next t nodes tree c today written (of_left (IsPublished next known) now c is (only c was))

starts_new : (known : Option Image) (next : Super) (t : StoredTable) (new : Image) → IfSome known (HasTableOf next t) → IsPublished next known new → StartsAs next (saved_by next t) 0 new
starts_new None next t new table is = absurd is.outside
starts_new (Some old) next t new table is =
    let same : SameBut (IsOfHalf next.half) old new = is.outside in
    let slots : SameSlots (used_slots next.table t) old new = λ b own. same.others b (not_slot next.half b (omega (arith, own.4.0))) in
    let first : log_block next.half + 0 ≡ log_block next.half = omega arith in
    record {
      live_is = is.live;
      table_is = table_same next.slots next.table t old new slots table;
      batches = [];
      batches_are = record { follow = refl; closed = λ on. is.log (subst (IsCommitted new) first on) };
    }

-- a crash leaves what reads give
pub settled_only : (known : Option Image) (left : Image → Type 0) → IsOnly known left → AreSettled known left
settled_only known left only = λ c was. subst (λ (o : Option Image). IsSomeAnd o (λ image. SameSuperblocks image c)) (sym (only c was)) (record { size = refl; blocks = λ b low. refl })

live_now : (known now : Option Image) (next : Super) → IfSome now (IsPublished next known) → IfSome now (λ image. IsLive image next)
live_now known None next is = tt
live_now known (Some image) next is = is.live

pub open_new : (known now : Option Image) (left : Image → Type 0) (count total : ℕ) (next : Super) (t : StoredTable) → IsSuper next → count ≡ image_blocks next.slots
    → total ≡ count → IfSome known (HasTableOf next t) → IfSome now (IsPublished next known) → IsOnly now left
    → IsOpen now left total next (saved_by next t) (fresh_log (log_block next.half) next.epoch)
open_new known now left count total next t fits size same table is only = record {
  fits = fits;
  size = same ∙ size;
  live_is = live_now known now next is;
  settled = settled_only now left only;
  each = λ c was. starts_new known next t c table (of_left (IsPublished next known) now c is (only c was));
  at = refl;
  log_is = record { first = refl; epoch = refl };
}

-- ---- the superblock after the live one

pub is_next : (live next : Super) (count : ℕ) (at : List ℕ) → next ≡ super_after live count at → IsNext live next
is_next live next count at same = same ∙ ap (λ (s : Super). super_after live s.count s.table) (sym same)
