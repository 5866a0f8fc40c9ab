-- What a check leaves of its image, and what it says.
use Rattle.std.proofs.Common.{◌≡◌, ◌≢◌, ◌⊎◌, ◌↔◌, ℕ, ◌+◌, ◌<◌, ◌≤◌, ◌^◌, Bool, List, [], length, refl, sym, ap, subst, ◌∙◌, arith, inl, inr}
use Rattle.std.specs.Prelude.{IfErr, IfOk, IfSome, IsSomeAnd, OnOk}
use Rattle.std.specs.declared.result.Result.{Result}
use Rattle.std.specs.declared.result.Result.TheVariants.{Ok, Err}
use Rattle.std.specs.declared.option.Option.{Option}
use Rattle.std.specs.declared.option.Option.TheVariants.{None, Some}
use Rattle.std.specs.Io.KnownBytes.{append_known}
use Rattle.std.proofs.lemmas.Bool.{cases_lt}
use Rattle.bd_model.specs.Tree.{Tree}
use Rattle.bd_io.specs.Cause.{Rose, next_count}
use Rattle.bd_io.specs.Written.{WrotePart}
use Rattle.bd_device.specs.Blocks.{Image, HasBlocks}
use Rattle.bd_device.specs.Moments.{Nothing, Elapses}
use Rattle.bd_device.specs.declared.device.Device.{Ghosts}
use Rattle.bd_device.proofs.Moments.{goes_on, by_name}
use Rattle.bd_image.specs.ImageTree.{ImageStandsFor}
use Rattle.bd_checkpoint.specs.Recovering.{OnlySettles, HasSettled, FailsFirst}
use Rattle.bd_check.specs.Causes.{HasCheckCause}
use Rattle.bd_check.specs.Verdicts.{IsRightOf, IsVerdictOn, SaysYes}
use Rattle.bd_check.specs.declared.fault.CheckFault.{CheckFault}
use Rattle.bd_check.specs.declared.fault.CheckFault.TheVariants as check
use Rattle.bd_check.specs.declared.verdict.Verdict.{Verdict}
use Rattle.bd_check.specs.declared.verdict.Verdict.TheVariants.{Yes, BadBlock, BadNode, Limit}
use Rattle.bd_shell.specs.declared.fault.Fault.{Fault}
use Rattle.bd_shell.specs.declared.fault.Fault.TheVariants.{Device, Damaged, Source, Memory, TooLong, Worn, Sink}
use Rattle.bd_shell.specs.Fault.{status_of, fault_line, Faults, faults, Caused, IsCaused}
use Rattle.bd_shell.specs.Shell.{counts_of}
use Rattle.bd_calls.specs.Check.{HasFoundTree, KeepsFromAnswering, KeepsImage, IsAnswer, TellsVerdict, verdict_status}
use Rattle.bd_calls.specs.Fill.{WritesSome}
use Rattle.bd_calls.specs.Work.{Disk, disk, IsUnopened}
use Rattle.bd_calls.specs.Run.{EndsUnfailed, IsDetached, IsFaultless, Seen}
use Rattle.bd_calls.proofs.Fills.{never_two}
use Rattle.bd_calls.proofs.Runs.{IsUnmade, disk_of, never_zero, next_few, rose_or_not, rose_next}

-- what is said of a result holds of what it has
pub if_ok : {T E : Type 0} (P : T → Type 0) (r : Result T E) (x : T) → r ≡ Ok x → IfOk r P → P x
if_ok P r x is h = subst (λ (o : Result _ _). IfOk o P) is h

-- ---- no block is written

-- an attach failed
pub keeps_detached : (before now : Disk) → now.image ≡ before.image → now.write_faults ≡ before.write_faults → now.calls ≡ next_count before.calls → Elapses before.calls now.calls before.left now.left Nothing → KeepsImage (before.calls + 2) before now
keeps_detached before now image faults once time = record {
  image = image;
  write_faults = inl faults;
  stopped = time;
  opened = λ some. inr (record { none = refl; why = inl (omega (arith, once, next_few before.calls)) });
}

-- an image that was attached goes by its name
pub keeps_attached : (before mid : Disk) (known shown : Option Image) (calls : ℕ) (since left : ℕ → Image → Type 0) (writes : ℕ) (failed : Bool) → mid.image ≡ before.image → mid.calls ≡ before.calls + 1 → mid.write_faults ≡ before.write_faults
    → Elapses before.calls mid.calls before.left mid.left Nothing → shown ≡ known → ((t : ℕ) (c : Image) → left t c ↔ since t c)
    → KeepsImage (mid.calls + 1) mid (disk known calls since writes failed) → KeepsImage (before.calls + 2) before (disk shown calls left writes failed)
keeps_attached before mid known shown calls since left writes failed image_is calls_are faults_are time shows named h = record {
  image = shows ∙ h.image ∙ image_is;
  write_faults = elim h.write_faults [ inl same ↦ inl (same ∙ faults_are) | inr one ↦ inr (one ∙ ap next_count faults_are) ];
  stopped = by_name Nothing (goes_on Nothing Nothing time h.stopped (λ c none. none)) named;
  opened = λ some. open_by (mid.calls + 1) (before.calls + 2) (omega (arith, calls_are)) (h.opened (subst (λ o. IsSomeAnd o (λ image. 0 < length image)) (sym image_is) some));
}
  where
    why : (k j : ℕ) → k ≡ j → IsUnmade k mid (disk known calls since writes failed) → IsUnmade j before (disk shown calls left writes failed)
    why k j same (inl few) = inl (omega (arith, few, same))
    why k j same (inr (few, rose)) = inr (omega (arith, few, same), subst (λ i. Rose i writes) faults_are rose)

    open_by : (k j : ℕ) → k ≡ j → ((c : Image) → since k c → mid.image ≡ Some c) ⊎ IsUnopened k [] mid (disk known calls since writes failed)
        → ((c : Image) → left j c → before.image ≡ Some c) ⊎ IsUnopened j [] before (disk shown calls left writes failed)
    open_by k j same (inl all) = inl (λ c was. sym image_is ∙ all c ((named k c).0 (subst (λ i. left i c) (sym same) was)))
    open_by k j same (inr h) = inr (record { none = refl; why = why k j same h.why })

module _ {D : Type 0} (g : Ghosts D) where
  -- an image that has blocks is one of a device that has them
  some_block : (known : Option Image) (count : ℕ) → IfSome known (HasBlocks count) → IsSomeAnd known (λ image. 0 < length image) → 0 < count
  some_block None count shape some = absurd some
  some_block (Some image) count shape some = omega (arith, shape.count_is, some)

  pub keeps_settled : (old new : D) → IfSome (g.contents old) (HasBlocks (g.block_count old)) → OnlySettles g old new → (0 < g.block_count old → ¬ FailsFirst g old new → HasSettled g old new) → KeepsImage (g.call_count old + 1) (disk_of g old) (disk_of g new)
  keeps_settled old new shape left settles = record {
    image = left.kept;
    write_faults = left.write_faults;
    stopped = left.time;
    opened = λ some. by (some_block (g.contents old) (g.block_count old) shape some) (cases_lt (g.call_count old + 1) (g.call_count new)) (rose_or_not (g.write_fault_count old) (g.write_fault_count new));
  }
    where
      only : HasSettled g old new → (c : Image) → g.left_since new (g.call_count old + 1) c → g.contents old ≡ Some c
      only h = h.only

      by : 0 < g.block_count old → (g.call_count old + 1 < g.call_count new) ⊎ (g.call_count new ≤ g.call_count old + 1) → Rose (g.write_fault_count old) (g.write_fault_count new) ⊎ (Rose (g.write_fault_count old) (g.write_fault_count new) → ⊥)
          → ((c : Image) → g.left_since new (g.call_count old + 1) c → g.contents old ≡ Some c) ⊎ IsUnopened (g.call_count old + 1) [] (disk_of g old) (disk_of g new)
      by some (inl many) rose = inl (only (settles some (λ first. omega (arith, first.few, many))))
      by some (inr few) (inl rose) = inr (record { none = refl; why = inr (few, rose) })
      by some (inr few) (inr unrisen) = inl (only (settles some (λ first. unrisen first.rose)))

  -- ---- what was found

  pub answer_right : (known : Option Image) (found : Result Verdict CheckFault) (answer : Result Verdict Fault) → IsAnswer found answer → IfOk found (IsRightOf known) → IfOk answer (IsRightOf known)
  answer_right known (Ok v) answer is h = subst (λ (r : Result Verdict Fault). IfOk r (IsRightOf known)) (sym is) h
  answer_right known (Err check.DeviceFault) answer is h = subst (λ (r : Result Verdict Fault). IfOk r (IsRightOf known)) (sym is) tt
  answer_right known (Err (check.Worn which)) answer is h = subst (λ (r : Result Verdict Fault). IfOk r (IsRightOf known)) (sym is) tt
  answer_right known (Err check.NoMemory) answer is h = subst (λ (r : Result Verdict Fault). IfOk r (IsRightOf known)) (sym is) tt

  pub answer_writes : (P : Type 0) (found : Result Verdict CheckFault) (answer : Result Verdict Fault) → IsAnswer found answer → IfOk found (λ v. SaysYes v → P) → IfOk answer (λ v. SaysYes v → P)
  answer_writes P (Ok v) answer is h = subst (λ (r : Result Verdict Fault). IfOk r (λ v. SaysYes v → P)) (sym is) h
  answer_writes P (Err check.DeviceFault) answer is h = subst (λ (r : Result Verdict Fault). IfOk r (λ v. SaysYes v → P)) (sym is) tt
  answer_writes P (Err (check.Worn which)) answer is h = subst (λ (r : Result Verdict Fault). IfOk r (λ v. SaysYes v → P)) (sym is) tt
  answer_writes P (Err check.NoMemory) answer is h = subst (λ (r : Result Verdict Fault). IfOk r (λ v. SaysYes v → P)) (sym is) tt

  pub answer_why : (old new : D) (found : Result Verdict CheckFault) (answer : Result Verdict Fault) → IsAnswer found answer → HasCheckCause g old new found → IfErr answer (KeepsFromAnswering (g.contents old))
  answer_why old new (Ok v) answer is h = subst (λ (r : Result Verdict Fault). IfErr r (KeepsFromAnswering (g.contents old))) (sym is) tt
  answer_why old new (Err check.DeviceFault) answer is h = subst (λ (r : Result Verdict Fault). IfErr r (KeepsFromAnswering (g.contents old))) (sym is) tt
  answer_why old new (Err (check.Worn which)) answer is h = subst (λ (r : Result Verdict Fault). IfErr r (KeepsFromAnswering (g.contents old))) (sym is) h.failed.0
  answer_why old new (Err check.NoMemory) answer is h = subst (λ (r : Result Verdict Fault). IfErr r (KeepsFromAnswering (g.contents old))) (sym is) tt

  -- ---- faults

  all_kept : (old new : D) (sink : ℕ) → g.fault_count new ≡ g.fault_count old → counts_of g new sink ≡ counts_of g old sink
  all_kept old new sink same = ap (λ (n : ℕ). faults n 0 sink) same

  pub caused_ok : {T : Type 0} (old new : D) (sink : ℕ) (x : T) → g.fault_count new ≡ g.fault_count old → IsCaused {T = T} (counts_of g old sink) (counts_of g new sink) (g.last_failed new) (Ok x)
  caused_ok old new sink x same = record {
    later = record { device = omega (arith, same); source = omega arith; sink = omega arith };
    kept = all_kept old new sink same;
    cause = tt;
  }

  caused_same : {T : Type 0} (old new : D) (sink : ℕ) (e : Fault) → g.fault_count new ≡ g.fault_count old → (counts_of g new sink ≡ counts_of g old sink → Caused e (counts_of g old sink) (counts_of g new sink) (g.last_failed new))
      → IsCaused {T = T} (counts_of g old sink) (counts_of g new sink) (g.last_failed new) (Err e)
  caused_same old new sink e same cause = record {
    later = record { device = omega (arith, same); source = omega arith; sink = omega arith };
    kept = tt;
    cause = cause (all_kept old new sink same);
  }

  -- an attach that went well raised no count
  pub caused_attached : {T : Type 0} (old mid new : D) (sink : ℕ) (r : Result T Fault) → g.fault_count mid ≡ g.fault_count old
      → IsCaused (counts_of g mid sink) (counts_of g new sink) (g.last_failed new) r → IsCaused (counts_of g old sink) (counts_of g new sink) (g.last_failed new) r
  caused_attached old mid new sink r same h = subst (λ (f : Faults). IsCaused f (counts_of g new sink) (g.last_failed new) r) (all_kept old mid sink same) h

  pub caused_check : (old new : D) (sink : ℕ) → g.fault_count old < 2 ^ 64 → (found : Result Verdict CheckFault) (answer : Result Verdict Fault) → IsAnswer found answer → HasCheckCause g old new found
      → IsCaused (counts_of g old sink) (counts_of g new sink) (g.last_failed new) answer
  caused_check old new sink low (Ok v) answer is h =
      subst (λ (r : Result Verdict Fault). IsCaused (counts_of g old sink) (counts_of g new sink) (g.last_failed new) r) (sym is) (caused_ok old new sink v h.kept)
  caused_check old new sink low (Err check.DeviceFault) answer is h =
      subst (λ (r : Result Verdict Fault). IsCaused (counts_of g old sink) (counts_of g new sink) (g.last_failed new) r) (sym is) (record {
        later = record { device = omega (arith, low, h.failed.one); source = omega arith; sink = omega arith };
        kept = tt;
        cause = (h.failed.one, h.failed.last, refl);
      })
  caused_check old new sink low (Err (check.Worn which)) answer is h =
      subst (λ (r : Result Verdict Fault). IsCaused (counts_of g old sink) (counts_of g new sink) (g.last_failed new) r) (sym is) (caused_same {T = Verdict} old new sink (Worn which) h.failed.1 (λ same. same))
  caused_check old new sink low (Err check.NoMemory) answer is h =
      subst (λ (r : Result Verdict Fault). IsCaused (counts_of g old sink) (counts_of g new sink) (g.last_failed new) r) (sym is) (caused_same {T = Verdict} old new sink Memory h.failed (λ same. same))

-- ---- what is written

pub verdict_some : (said line : List ℕ) (old new : Option (List ℕ)) (before now : ℕ) → line ≡ said → (new ≡ append_known old line) ⊎ WrotePart line old new → Rose before now → WritesSome said old new before now
verdict_some said line old new before now is (inl all) rose = inl (all ∙ ap (append_known old) is)
verdict_some said line old new before now is (inr part) rose = inr (subst (λ l. WrotePart l old new) is part, rose)

pub verdict_known : (r : Result Verdict Fault) (status : ℕ) (old new : Option (List ℕ)) (before now : ℕ) → TellsVerdict r status old new before now → status ≢ 2
verdict_known (Ok (Yes nodes keys count)) status old new before now (inl h) two = omega (arith, h.0)
verdict_known (Ok (BadBlock block)) status old new before now (inl h) two = omega (arith, h.0)
verdict_known (Ok (BadNode id)) status old new before now (inl h) two = omega (arith, h.0)
verdict_known (Ok Limit) status old new before now (inl h) two = omega (arith, h.0)
verdict_known (Ok v) status old new before now (inr h) two = omega (arith, h.0)
verdict_known (Err e) status old new before now h two = never_two e (sym h.0 ∙ two)

-- no check ends by a fault of the sink before its line
pub check_flushed : (r : Result Verdict Fault) (known : Option Image) (P : Type 0) → IfErr r (KeepsFromAnswering known) → (r ≡ Err Sink) ⊎ P → P
check_flushed r known P why (inl is) = absurd (subst (λ (r : Result Verdict Fault). IfErr r (KeepsFromAnswering known)) is why)
check_flushed r known P why (inr h) = h

-- at status 0 it was a yes, and the sink didn't fail
pub verdict_well : (r : Result Verdict Fault) (status : ℕ) (old new : Option (List ℕ)) (before now : ℕ) (P : Type 0) → TellsVerdict r status old new before now → status ≡ 0 → ((v : Verdict) → r ≡ Ok v → SaysYes v → now ≡ before → P) → P
verdict_well (Ok (Yes nodes keys count)) status old new before now P (inl h) zero then = then (Yes nodes keys count) refl tt h.2
verdict_well (Ok (BadBlock block)) status old new before now P (inl h) zero then = absurd (omega (arith, h.0))
verdict_well (Ok (BadNode id)) status old new before now P (inl h) zero then = absurd (omega (arith, h.0))
verdict_well (Ok Limit) status old new before now P (inl h) zero then = absurd (omega (arith, h.0))
verdict_well (Ok v) status old new before now P (inr h) zero then = absurd (omega (arith, h.0))
verdict_well (Err e) status old new before now P h zero then = absurd (never_zero e (sym h.0 ∙ zero))

-- the line of a fault is written where there is no verdict
pub verdict_of_fault : (r : Result Verdict Fault) (e : Fault) (status : ℕ) (old new : Option (List ℕ)) (before now : ℕ) → r ≡ Err e → (status ≡ status_of e) × WritesSome (fault_line e) old new before now → TellsVerdict r status old new before now
verdict_of_fault r e status old new before now is h = subst (λ r. TellsVerdict r status old new before now) (sym is) h

-- what stays at a verdict
pub ok_kept : {T E : Type 0} (r : Result T E) (x : T) (P : Type 0) → r ≡ Ok x → OnOk r P → P
ok_kept r x P is h = subst (λ (o : Result _ _). OnOk o P) is h

-- ---- where nothing fails

ends_well : (v : Verdict) (status : ℕ) → status ≡ verdict_status v → EndsUnfailed status ⊎ (status ≡ 10)
ends_well (Yes nodes keys count) status is = inl (inl is)
ends_well (BadBlock block) status is = inr is
ends_well (BadNode id) status is = inr is
ends_well Limit status is = inr is

pub check_complete : (r : Result Verdict Fault) (status : ℕ) (known : Option Image) (d d' s s' k k' : ℕ) (last : Bool) (old new : Option (List ℕ)) → TellsVerdict r status old new k k' → IsCaused (faults d 0 0) (faults d' 0 0) last r → IfErr r (KeepsFromAnswering known)
    → IsFaultless (faults d s k) (faults d' s' k') → EndsUnfailed status ⊎ (status ≡ 10)
check_complete (Ok v) status known d d' s s' k k' last old new (inl h) cause why f = ends_well v status h.0
check_complete (Ok v) status known d d' s s' k k' last old new (inr h) cause why f = absurd (f.sink h.2)
check_complete (Err Device) status known d d' s s' k k' last old new h cause why f = absurd (f.device (rose_next d d' cause.cause.0))
check_complete (Err (Damaged block)) status known d d' s s' k k' last old new h cause why f = absurd why
check_complete (Err Source) status known d d' s s' k k' last old new h cause why f = absurd why
check_complete (Err Memory) status known d d' s s' k k' last old new h cause why f = inl (inr (inl h.0))
check_complete (Err TooLong) status known d d' s s' k k' last old new h cause why f = absurd why
check_complete (Err (Worn which)) status known d d' s s' k k' last old new h cause why f = inl (inr (inr h.0))
check_complete (Err Sink) status known d d' s s' k k' last old new h cause why f = absurd why

-- ---- the device

pub check_used : {P U : Type 0} (r : Result Verdict Fault) (status : ℕ) (old new : Option (List ℕ)) (k k' : ℕ) (before now : Seen) (image : List ℕ) → TellsVerdict r status old new k k'
    → P ⊎ ((r ≡ Err Device) × (now.blocks ≡ 0) × (now.calls ≡ next_count before.calls) × (now.shows image ≡ before.shows image))
    → P ⊎ (IsDetached status before now × (now.shows image ≡ before.shows image)) ⊎ U
check_used r status old new k k' before now image told (inl named) = inl named
check_used r status old new k k' before now image told (inr h) =
    let told_device : TellsVerdict (Err Device) status old new k k' = subst (λ r. TellsVerdict r status old new k k') h.0 told in
    inr (inl (record { status_is = told_device.0; blocks = h.1; once = h.2 }, h.3))

-- ---- what was found

-- what is right of an image has what follows from that
pub found_right : (r : Result Verdict Fault) (image : Image) (P : Verdict → Type 0) → IfOk r (IsRightOf (Some image)) → ((v : Verdict) → IsVerdictOn image v → P v) → IfOk r P
found_right (Ok v) image P right law = law v right
found_right (Err e) image P right law = tt

pub has_found : (image : Image) → ((nodes keys count : ℕ) → IsVerdictOn image (Yes nodes keys count) → (tree : Tree) × ImageStandsFor tree count image) → (v : Verdict) → IsVerdictOn image v → HasFoundTree image v
has_found image law (Yes nodes keys count) right = law nodes keys count right
has_found image law (BadBlock block) right = tt
has_found image law (BadNode id) right = tt
has_found image law Limit right = tt
