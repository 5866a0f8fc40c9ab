-- What is known while a volume starts, and why it doesn't.
use Rattle.std.proofs.Common.{◌≡◌, ◌≢◌, ℕ, ◌+◌, ◌^◌, ◌<◌, inl, inr, Option, None, Some, IfSome, sym, ap, subst, ◌∙◌, arith}
use Rattle.std.specs.Prelude.{IsSomeAnd, Result, Ok}
use Rattle.std.proofs.lemmas.Bool.{cases_lt, false≢true}
use Rattle.bd_io.specs.Cause.{next_count, IsCounted}
use Rattle.bd_model.specs.Tree.{Tree}
use Rattle.bd_device.specs.Blocks.{Image}
use Rattle.bd_device.specs.Device.{left_now, Goes, Stays, OnlyReads, IsImageCause}
use Rattle.bd_device.specs.Moments.{Nothing, IsOnly}
use Rattle.bd_device.specs.declared.device.Device.{Ghosts}
use Rattle.bd_device.specs.declared.fault.ImageFault.{ImageFault}
use Rattle.bd_device.specs.declared.fault.ImageFault.TheVariants.{DeviceFault, Damaged, NoMemory}
use Rattle.bd_device.proofs.Calls.{stays_then, reads_stay}
use Rattle.bd_device.proofs.Moments.{goes_on}
use Rattle.bd_super.specs.Live.{IsLive, IsDamaged}
use Rattle.bd_super.specs.declared.superblock.Super.{Super}
use Rattle.bd_pager.specs.Opened.{IsBadStart}
use Rattle.bd_image.specs.ImageTree.{ImageStandsFor}
use Rattle.bd_image.specs.Damage.{IsFoundBad, IsBadAt}
use Rattle.bd_image.specs.Damage.IsFoundBad.{bad_super, bad_table, bad_node}
use Rattle.bd_image.specs.Damage.IsBadAt.{found_bad}
use Rattle.bd_checkpoint.specs.Resuming.{IsFoundUnder}
use Rattle.bd_checkpoint.specs.Recovering.{OnlySettles, HasSettled, FailsFirst, IsBadIn, IsFoundIn}
use Rattle.bd_table.proofs.EntryLemmas.{entry_found}

-- ---- what stays

pub reads_settle : {D : Type 0} (g : Ghosts D) (a b : D) → OnlyReads g a b → OnlySettles g a b
reads_settle g a b reads = record { kept = reads.kept; stays = reads_stay reads; time = reads.time; write_faults = inl reads.write_faults }

pub settles_then : {D : Type 0} (g : Ghosts D) (a b c : D) → OnlySettles g a b → OnlyReads g b c → OnlySettles g a c
settles_then g a b c so_far reads = record {
  kept = reads.kept ∙ so_far.kept;
  stays = stays_then so_far.stays (reads_stay reads);
  time = goes_on Nothing Nothing so_far.time reads.time (λ image none. none);
  write_faults = elim so_far.write_faults [ inl same ↦ inl (reads.write_faults ∙ same) | inr one ↦ inr (reads.write_faults ∙ one) ];
}

-- a barrier that failed
pub failed_settles : {D : Type 0} (g : Ghosts D) (a b : D) → g.contents b ≡ g.contents a → Stays g a b → Goes g a b Nothing → g.write_fault_count b ≡ next_count (g.write_fault_count a) → OnlySettles g a b
failed_settles g a b kept stays time one = record { kept = kept; stays = stays; time = time; write_faults = inr one }

-- a barrier that succeeded
pub barrier_settles : {D T E : Type 0} (g : Ghosts D) (a b : D) (x : T) → IsCounted {T = T} {E = E} (g.call_count a) (g.call_count b) (Ok x) → g.contents b ≡ g.contents a → IsOnly (g.contents b) (left_now g b) → HasSettled g a b
barrier_settles g a b x counted kept only =
    let low : g.call_count a + 1 < 2 ^ 64 = elim (cases_lt (g.call_count a + 1) (2 ^ 64)) [ inl low ↦ low | inr last ↦ absurd (false≢true (counted.last last)) ] in
    let one : g.call_count b ≡ g.call_count a + 1 = omega (arith, counted.counted, low) in
    record {
      called = omega (arith, one);
      only = subst (λ (n : ℕ). IsOnly (g.contents a) (g.left_since b n)) one (λ c was. sym kept ∙ only c was);
    }

-- one that failed, before any other call
pub barrier_fails : {D T E : Type 0} (g : Ghosts D) (a b : D) (r : Result T E) → IsCounted {T = T} {E = E} (g.call_count a) (g.call_count b) r → g.write_fault_count b ≡ next_count (g.write_fault_count a) → FailsFirst g a b
barrier_fails g a b r counted one = record {
  few = omega (arith, counted.counted);
  rose = elim (cases_lt (g.write_fault_count a) (g.write_fault_count b)) [ inl more ↦ inl more | inr same ↦ inr (omega (arith, one, same)) ];
}

-- and reads after it
pub settled_then : {D : Type 0} (g : Ghosts D) (a b c : D) → HasSettled g a b → OnlyReads g b c → HasSettled g a c
settled_then g a b c so_far reads = record {
  called = omega (arith, so_far.called, reads.time.later);
  only = λ image was. so_far.only image (elim (reads.time.adds (g.call_count a + 1) image so_far.called was) [ inl before ↦ before | inr none ↦ absurd none ]);
}

-- what a crash leaves after reads is what reads give
pub only_then : (known now : Option Image) (before left : Image → Type 0) → now ≡ known → ((c : Image) → left c → before c) → IsOnly known before → IsOnly now left
only_then known now before left same back only = λ c was. same ∙ only c (back c was)

-- ---- the fault

pub cause_on : {D : Type 0} (g : Ghosts D) (old mid new : D) (bad worse : ℕ → Type 0) (fault : ImageFault) → g.fault_count mid ≡ g.fault_count old → ((b : ℕ) → bad b → worse b)
    → IsImageCause g mid new bad fault → IsImageCause g old new worse fault
cause_on g old mid new bad worse DeviceFault same f h = record { one = h.one ∙ ap next_count same; last = h.last }
cause_on g old mid new bad worse (Damaged b) same f h = (f b h.0, h.1 ∙ same)
cause_on g old mid new bad worse NoMemory same f h = h ∙ same

pub bad_superblock : (known : Option Image) (b : ℕ) → IfSome known (λ image. IsDamaged image b) → IsFoundIn known b
bad_superblock None b h = tt
bad_superblock (Some image) b h = bad_super b h

pub bad_start : (known : Option Image) (s : Super) → IfSome known (λ image. IsLive image s) → (b : ℕ) → IsBadStart known s.slots s.table b → IsFoundIn known b
bad_start None s live b h = tt
bad_start (Some image) s live b (inl (same, none)) = subst (λ (x : ℕ). IsFoundBad image x) (sym same) (bad_table s live none)
bad_start (Some image) s live b (inr bad) =
    subst (λ (x : ℕ). IsFoundBad image x) (sym bad.block)
    (bad_node s bad.table bad.entry (record { live = live; table = bad.held; entry = entry_found bad.table.entries bad.entry bad.held.0.entries.rising bad.among }) (λ n good. bad.none n good.held))

pub bad_log : (known : Option Image) (s : Super) → IfSome known (λ image. IsLive image s) → (b : ℕ) → IsFoundUnder known s b → IsFoundIn known b
bad_log None s live b h = tt
bad_log (Some image) s live b h = h live

pub found_is_bad : (known : Option Image) (b : ℕ) → IsFoundIn known b → IsBadIn known b
found_is_bad None b h = tt
found_is_bad (Some image) b h = found_bad b h

-- no image that stands for a tree is damaged
pub no_damage : ((image : Image) (tree : Tree) (count b : ℕ) → ImageStandsFor tree count image → ¬ IsBadAt image b) → {D : Type 0} (g : Ghosts D) (old new : D) (known : Option Image) (fault : ImageFault)
    → IsImageCause g old new (IsFoundIn known) fault → (tree : Tree) (count : ℕ) → IsSomeAnd known (ImageStandsFor tree count) → (block : ℕ) → fault ≢ Damaged block
no_damage law g old new None fault cause tree count stands block same = absurd stands
no_damage law g old new (Some image) fault cause tree count stands block same =
    law image tree count block stands (found_bad block (subst (λ (f : ImageFault). IsImageCause g old new (IsFoundIn (Some image)) f) same cause).0)
