use Rattle.std.proofs.Common.{◌≡◌, ap, ℕ, List, Some, arith, ◌+◌, ◌-◌, ◌<◌, ◌∙◌, sym, subst, length, take}
use Rattle.bd_mirror.specs.Calls.{shown_now, attached_as}
use Rattle.bd_device.specs.Blocks.{Image}
use Rattle.bd_device.specs.Moments.{Nothing}
use Rattle.bd_device.proofs.Moments.{by_name}
use Rattle.bd_device.proofs.Refusals.{IfNone-always}
use Rattle.bd_mirror.specs.Crashes.{LosesNothing}
use Rattle.bd_mirror.specs.Names.{first_name, second_name}
use Rattle.bd_mirror.specs.Past.{GoesAsBefore, MemberGoes}
use Rattle.bd_mirror.specs.Since.{IsLeftOf}
use Rattle.bd_mirror.specs.declared.halves.Halves.TheVariants.{Both}
use Rattle.bd_mirror.specs.declared.halves.Attached.TheVariants.{Pair}
use Rattle.bd_mirror.proofs.Attaching.{split_none, split_some, named_alone, named_member, named_two, first_alone, alone_names, member_names, pair_names, empty_is, some_is, two_no_member, alone_no_member, none_of, not_too_many}
use Rattle.bd_mirror.proofs.Behind.{alone_behind, named_member_behind, named_pair_behind}
use Rattle.bd_mirror.proofs.Crashes.{none_then}
use Rattle.bd_mirror.proofs.Past.{alone_by_name, member_by_name, pair_by_name}
use Rattle.bd_mirror.proofs.Since.{both_ok}
use Rattle.std.specs.Prelude.{◌&&◌, is_some}
use Rattle.bd_mirror.specs.Sound.{are_told}
use Rattle.bd_mirror.proofs.Named.{some_then, sized_then, ok_sized}
use Rattle.bd_mirror.proofs.parts.Parts.attach_halves.Goals as goal

pub returns-in_ok-attach-in-None-clause-named : goal.returns-in_ok-attach-in-None-clause-named
returns-in_ok-attach-in-None-clause-named g c =
    named_alone c.args.name.now (g.A.Device.block_count c.attach.new.self) (g.B.Device.block_count c.args.self.now.second)
    (split_none _ c.args.name.now c.split_once.result c.split_once.ensures.byte (λ w o h. h) c.in-None.is)

pub returns-in_ok-attach-in-None-clause-shown : goal.returns-in_ok-attach-in-None-clause-shown
returns-in_ok-attach-in-None-clause-shown g c =
    alone_names c.args.create (g.A.Device.contents c.attach.new.self) (g.A.Attach.shows c.args.self.now.first) c.args.name.now (first_name c.args.name.now)
    (first_alone c.args.name.now (split_none _ c.args.name.now c.split_once.result c.split_once.ensures.byte (λ w o h. h) c.in-None.is))
    c.in_ok-attach-in-None.ensures.shown

pub returns-in_ok-attach-in-None-clause-opened : goal.returns-in_ok-attach-in-None-clause-opened
returns-in_ok-attach-in-None-clause-opened g c = λ e. alone_no_member e

pub returns-in_ok-attach_member-in-Some-clause-named : goal.returns-in_ok-attach_member-in-Some-clause-named
returns-in_ok-attach_member-in-Some-clause-named g c =
    let cut = split_some _ c.args.name.now c.split_once.result _ c.split_once.ensures.byte (λ w o h. h) c.in-Some.is in
    named_member c.args.name.now (g.A.Device.block_count c.attach_member.new.self.first) (g.B.Device.block_count c.attach_member.new.self.second) cut.2
    (sym cut.1 ∙ empty_is c.is_empty.result c.in-Some.second.now c.is_empty.ensures c.if-is_empty.true)

pub returns-in_ok-attach_member-in-Some-clause-shown : goal.returns-in_ok-attach_member-in-Some-clause-shown
returns-in_ok-attach_member-in-Some-clause-shown g c =
    let cut = split_some _ c.args.name.now c.split_once.result _ c.split_once.ensures.byte (λ w o h. h) c.in-Some.is in
    let new = c.attach_member.new.self.first in
    member_names (λ n. n + 1) c.in_ok-size-in-Some.size c.args.create (g.A.Device.block_count new) (g.A.Device.contents new) (g.A.Attach.shows c.args.self.now.first)
    c.in-Some.first.now (first_name c.args.name.now) c.in_ok-size-in-Some.ensures.more cut.0 c.in_ok-attach_member-in-Some.ensures.shown

pub returns-in_ok-attach_member-in-Some-clause-opened : goal.returns-in_ok-attach_member-in-Some-clause-opened
returns-in_ok-attach_member-in-Some-clause-opened g c = λ _. c.in_ok-attach_member-in-Some.ensures.opened

pub returns-else-is_empty-clause-named : goal.returns-else-is_empty-clause-named
returns-else-is_empty-clause-named g c =
    let cut = split_some _ c.args.name.now c.split_once.result _ c.split_once.ensures.byte (λ w o h. h) c.in-Some.is in
    named_two c.attach_pair.result c.args.name.now (g.A.Device.block_count c.attach_pair.new.self.first) (g.B.Device.block_count c.attach_pair.new.self.second) cut.2
    (λ e. some_is c.is_empty.result c.in-Some.second.now c.is_empty.ensures c.if-is_empty.false (cut.1 ∙ e))
    c.attach_pair.ensures.two c.attach_pair.ensures.marks c.attach_pair.ensures.equal

pub returns-else-is_empty-clause-shown : goal.returns-else-is_empty-clause-shown
returns-else-is_empty-clause-shown g c =
    let cut = split_some _ c.args.name.now c.split_once.result _ c.split_once.ensures.byte (λ w o h. h) c.in-Some.is in
    let new = c.attach_pair.new.self in
    pair_names c.attach_pair.result (λ n. n + 1) c.in_ok-size-in-Some.size c.args.create (λ at. shown_now g.A.Device g.B.Device (attached_as at new))
    (g.A.Device.block_count new.first) (g.B.Device.block_count new.second) (g.A.Attach.shows c.args.self.now.first) (g.B.Attach.shows c.args.self.now.second)
    c.in-Some.first.now c.in-Some.second.now (first_name c.args.name.now) (second_name c.args.name.now) c.in_ok-size-in-Some.ensures.more cut.0 cut.1
    c.attach_pair.ensures.shown

pub returns-else-is_empty-clause-opened : goal.returns-else-is_empty-clause-opened
returns-else-is_empty-clause-opened g c = two_no_member _ c.attach_pair.result c.attach_pair.ensures.two

-- ---- what a crash inside it may leave

pub returns-in_ok-attach-in-None-clause-inside : goal.returns-in_ok-attach-in-None-clause-inside
returns-in_ok-attach-in-None-clause-inside g c = IfNone-always c.args.create (λ plus _.
    absurd (omega (arith, plus, split_none _ c.args.name.now c.split_once.result c.split_once.ensures.byte (λ w o h. h) c.in-None.is)))

pub returns-in_err-attach-in-None-clause-inside : goal.returns-in_err-attach-in-None-clause-inside
returns-in_err-attach-in-None-clause-inside g c = IfNone-always c.args.create (λ plus _.
    absurd (omega (arith, plus, split_none _ c.args.name.now c.split_once.result c.split_once.ensures.byte (λ w o h. h) c.in-None.is)))

pub returns-in_ok-attach_member-in-Some-clause-inside : goal.returns-in_ok-attach_member-in-Some-clause-inside
returns-in_ok-attach_member-in-Some-clause-inside g c =
    let cut = split_some _ c.args.name.now c.split_once.result _ c.split_once.ensures.byte (λ w o h. h) c.in-Some.is in
    IfNone-always c.args.create (λ _ more. absurd (more (sym cut.1 ∙ empty_is c.is_empty.result c.in-Some.second.now c.is_empty.ensures c.if-is_empty.true)))

pub returns-in_err-attach_member-in-Some-clause-inside : goal.returns-in_err-attach_member-in-Some-clause-inside
returns-in_err-attach_member-in-Some-clause-inside g c =
    let cut = split_some _ c.args.name.now c.split_once.result _ c.split_once.ensures.byte (λ w o h. h) c.in-Some.is in
    IfNone-always c.args.create (λ _ more. absurd (more (sym cut.1 ∙ empty_is c.is_empty.result c.in-Some.second.now c.is_empty.ensures c.if-is_empty.true)))

pub returns-in_err-size-in-Some-clause-inside : goal.returns-in_err-size-in-Some-clause-inside
returns-in_err-size-in-Some-clause-inside g c = not_too_many _ c.args.create c.in_err-size-in-Some.ensures.fails

pub returns-else-is_empty-clause-inside : goal.returns-else-is_empty-clause-inside
returns-else-is_empty-clause-inside g c =
    let cut = split_some _ c.args.name.now c.split_once.result _ c.split_once.ensures.byte (λ w o h. h) c.in-Some.is in
    let m = c.args.self.now in
    let new = c.attach_pair.new.self in
    none_of (λ n. n + 1) c.in_ok-size-in-Some.size c.args.create c.in_ok-size-in-Some.ensures.more c.attach_pair.ensures.inside (λ loses _ _.
    subst (λ first. LosesNothing (λ d. g.A.Attach.shows d first) (λ d. g.B.Attach.shows d (second_name c.args.name.now))
    (λ d. g.A.Attach.left_behind d first) (λ d. g.B.Attach.left_behind d (second_name c.args.name.now)) g.A.Device.call_count g.B.Device.call_count m.first m.second new.first new.second) cut.0
    (subst (λ second. LosesNothing (λ d. g.A.Attach.shows d c.in-Some.first.now) (λ d. g.B.Attach.shows d second)
    (λ d. g.A.Attach.left_behind d c.in-Some.first.now) (λ d. g.B.Attach.left_behind d second) g.A.Device.call_count g.B.Device.call_count m.first m.second new.first new.second) cut.1 loses))

-- ---- what is shown afterwards

pub returns-in_ok-attach-in-None-clause-behind : goal.returns-in_ok-attach-in-None-clause-behind
returns-in_ok-attach-in-None-clause-behind g c =
    let all = first_alone c.args.name.now (split_none _ c.args.name.now c.split_once.result c.split_once.ensures.byte (λ w o h. h) c.in-None.is) in
    alone_behind c.args.create c.args.name.now (first_name c.args.name.now) (g.A.Attach.shows c.attach.new.self) (g.A.Attach.shows c.args.self.now.first) _ all
    (none_then c.args.create c.in_ok-attach-in-None.ensures.shown (λ e. g.met.A.Attach.shows_named c.attach.new.self c.args.name.now c.in_ok-attach-in-None.ensures.named ∙ e))

pub returns-in_err-attach-in-None-clause-behind : goal.returns-in_err-attach-in-None-clause-behind
returns-in_err-attach-in-None-clause-behind g c =
    let all = first_alone c.args.name.now (split_none _ c.args.name.now c.split_once.result c.split_once.ensures.byte (λ w o h. h) c.in-None.is) in
    alone_behind c.args.create c.args.name.now (first_name c.args.name.now) (g.A.Attach.shows c.attach.new.self) (g.A.Attach.shows c.args.self.now.first) _ all
    c.in_err-attach-in-None.ensures.behind

pub returns-in_err-size-in-Some-clause-behind : goal.returns-in_err-size-in-Some-clause-behind
returns-in_err-size-in-Some-clause-behind g c = not_too_many _ c.args.create c.in_err-size-in-Some.ensures.fails

pub returns-in_ok-attach_member-in-Some-clause-behind : goal.returns-in_ok-attach_member-in-Some-clause-behind
returns-in_ok-attach_member-in-Some-clause-behind g c =
    let cut = split_some _ c.args.name.now c.split_once.result _ c.split_once.ensures.byte (λ w o h. h) c.in-Some.is in
    none_of (λ n. n + 1) c.in_ok-size-in-Some.size c.args.create c.in_ok-size-in-Some.ensures.more c.attach_member.ensures.behind (λ same.
    named_member_behind c.args.name.now c.in-Some.first.now (g.A.Attach.shows c.attach_member.new.self.first) (g.A.Attach.shows c.args.self.now.first) _ _ cut.2
    (sym cut.1 ∙ empty_is c.is_empty.result c.in-Some.second.now c.is_empty.ensures c.if-is_empty.true) cut.0 same)

pub returns-in_err-attach_member-in-Some-clause-behind : goal.returns-in_err-attach_member-in-Some-clause-behind
returns-in_err-attach_member-in-Some-clause-behind g c =
    let cut = split_some _ c.args.name.now c.split_once.result _ c.split_once.ensures.byte (λ w o h. h) c.in-Some.is in
    none_of (λ n. n + 1) c.in_ok-size-in-Some.size c.args.create c.in_ok-size-in-Some.ensures.more c.attach_member.ensures.behind (λ same.
    named_member_behind c.args.name.now c.in-Some.first.now (g.A.Attach.shows c.attach_member.new.self.first) (g.A.Attach.shows c.args.self.now.first) _ _ cut.2
    (sym cut.1 ∙ empty_is c.is_empty.result c.in-Some.second.now c.is_empty.ensures c.if-is_empty.true) cut.0 same)

pub returns-else-is_empty-clause-behind : goal.returns-else-is_empty-clause-behind
returns-else-is_empty-clause-behind g c =
    let cut = split_some _ c.args.name.now c.split_once.result _ c.split_once.ensures.byte (λ w o h. h) c.in-Some.is in
    let new = c.attach_pair.new.self in
    none_of (λ n. n + 1) c.in_ok-size-in-Some.size c.args.create c.in_ok-size-in-Some.ensures.more c.attach_pair.ensures.behind (λ same.
    named_pair_behind c.args.name.now c.in-Some.first.now c.in-Some.second.now (g.A.Attach.shows new.first) (g.A.Attach.shows c.args.self.now.first)
    (g.B.Attach.shows new.second) (g.B.Attach.shows c.args.self.now.second) cut.2
    (λ e. some_is c.is_empty.result c.in-Some.second.now c.is_empty.ensures c.if-is_empty.false (cut.1 ∙ e)) cut.0 cut.1 same)

-- ---- the names of the halves

pub returns-in_ok-attach-in-None-clause-halves : goal.returns-in_ok-attach-in-None-clause-halves
returns-in_ok-attach-in-None-clause-halves g c =
    let none = split_none _ c.args.name.now c.split_once.result c.split_once.ensures.byte (λ w o h. h) c.in-None.is in
    record {
      first = subst (λ (name : List ℕ). g.A.Device.is_named c.attach.new.self name) (sym (first_alone c.args.name.now none)) c.in_ok-attach-in-None.ensures.named;
      second = λ plus _. absurd (omega (arith, plus, none));
    }

pub returns-in_ok-attach_member-in-Some-clause-halves : goal.returns-in_ok-attach_member-in-Some-clause-halves
returns-in_ok-attach_member-in-Some-clause-halves g c =
    let cut = split_some _ c.args.name.now c.split_once.result _ c.split_once.ensures.byte (λ w o h. h) c.in-Some.is in
    record {
      first = subst (λ (name : List ℕ). g.A.Device.is_named c.attach_member.new.self.first name) cut.0 c.in_ok-attach_member-in-Some.ensures.named;
      second = λ _ more. absurd (more (sym cut.1 ∙ empty_is c.is_empty.result c.in-Some.second.now c.is_empty.ensures c.if-is_empty.true));
    }

pub returns-else-is_empty-clause-halves : goal.returns-else-is_empty-clause-halves
returns-else-is_empty-clause-halves g c =
    let cut = split_some _ c.args.name.now c.split_once.result _ c.split_once.ensures.byte (λ w o h. h) c.in-Some.is in
    let new = c.attach_pair.new.self in
    both_ok c.attach_pair.result c.attach_pair.ensures.first_named c.attach_pair.ensures.second_named (λ first second. record {
      first = subst (λ (name : List ℕ). g.A.Device.is_named new.first name) cut.0 first;
      second = λ _ _. subst (λ (name : List ℕ). g.B.Device.is_named new.second name) cut.1 second;
    })

-- ---- what it may leave since an earlier call

pub returns-in_ok-attach-in-None-clause-by_name : goal.returns-in_ok-attach-in-None-clause-by_name
returns-in_ok-attach-in-None-clause-by_name g c =
    let none = split_none _ c.args.name.now c.split_once.result c.split_once.ensures.byte (λ w o h. h) c.in-None.is in
    alone_by_name c.args.create c.args.name.now (first_name c.args.name.now) _ _ g.A.Attach.left_behind (λ d. g.B.Attach.left_behind d (second_name c.args.name.now))
    g.A.Device.call_count g.B.Device.call_count c.args.self.now.first c.attach.new.self c.args.self.now.second none (first_alone c.args.name.now none)
    (none_then c.args.create c.in_ok-attach-in-None.ensures.time (λ time. by_name Nothing time
    (λ t image. g.met.A.Attach.left_named c.attach.new.self c.args.name.now t image c.in_ok-attach-in-None.ensures.named)))

pub returns-in_err-attach-in-None-clause-by_name : goal.returns-in_err-attach-in-None-clause-by_name
returns-in_err-attach-in-None-clause-by_name g c =
    let none = split_none _ c.args.name.now c.split_once.result c.split_once.ensures.byte (λ w o h. h) c.in-None.is in
    alone_by_name c.args.create c.args.name.now (first_name c.args.name.now) _ _ g.A.Attach.left_behind (λ d. g.B.Attach.left_behind d (second_name c.args.name.now))
    g.A.Device.call_count g.B.Device.call_count c.args.self.now.first c.attach.new.self c.args.self.now.second none (first_alone c.args.name.now none)
    c.in_err-attach-in-None.ensures.behind_time

pub returns-in_err-size-in-Some-clause-by_name : goal.returns-in_err-size-in-Some-clause-by_name
returns-in_err-size-in-Some-clause-by_name g c = not_too_many _ c.args.create c.in_err-size-in-Some.ensures.fails

pub returns-in_ok-attach_member-in-Some-clause-by_name : goal.returns-in_ok-attach_member-in-Some-clause-by_name
returns-in_ok-attach_member-in-Some-clause-by_name g c =
    let cut = split_some _ c.args.name.now c.split_once.result _ c.split_once.ensures.byte (λ w o h. h) c.in-Some.is in
    let m = c.args.self.now in
    let new = c.attach_member.new.self in
    none_of (λ n. n + 1) c.in_ok-size-in-Some.size c.args.create c.in_ok-size-in-Some.ensures.more c.attach_member.ensures.by_name (λ goes.
    member_by_name c.args.name.now _ _ (λ d. g.A.Attach.left_behind d (first_name c.args.name.now)) (λ d. g.B.Attach.left_behind d (second_name c.args.name.now))
    g.A.Device.call_count g.B.Device.call_count m.first new.first m.second new.second cut.2
    (sym cut.1 ∙ empty_is c.is_empty.result c.in-Some.second.now c.is_empty.ensures c.if-is_empty.true)
    (ap (λ m. g.B.Device.call_count m.second) c.attach_member.ensures.after)
    (subst (λ first. (x : Image) → g.A.Attach.shows m.first first ≡ Some x → MemberGoes (λ d. g.A.Attach.left_behind d first) g.A.Device.call_count (take (length x - 1)) m.first new.first) cut.0 goes))

pub returns-in_err-attach_member-in-Some-clause-by_name : goal.returns-in_err-attach_member-in-Some-clause-by_name
returns-in_err-attach_member-in-Some-clause-by_name g c =
    let cut = split_some _ c.args.name.now c.split_once.result _ c.split_once.ensures.byte (λ w o h. h) c.in-Some.is in
    let m = c.args.self.now in
    let new = c.attach_member.new.self in
    none_of (λ n. n + 1) c.in_ok-size-in-Some.size c.args.create c.in_ok-size-in-Some.ensures.more c.attach_member.ensures.by_name (λ goes.
    member_by_name c.args.name.now _ _ (λ d. g.A.Attach.left_behind d (first_name c.args.name.now)) (λ d. g.B.Attach.left_behind d (second_name c.args.name.now))
    g.A.Device.call_count g.B.Device.call_count m.first new.first m.second new.second cut.2
    (sym cut.1 ∙ empty_is c.is_empty.result c.in-Some.second.now c.is_empty.ensures c.if-is_empty.true)
    (ap (λ m. g.B.Device.call_count m.second) c.attach_member.ensures.after)
    (subst (λ first. (x : Image) → g.A.Attach.shows m.first first ≡ Some x → MemberGoes (λ d. g.A.Attach.left_behind d first) g.A.Device.call_count (take (length x - 1)) m.first new.first) cut.0 goes))

pub returns-else-is_empty-clause-by_name : goal.returns-else-is_empty-clause-by_name
returns-else-is_empty-clause-by_name g c =
    let cut = split_some _ c.args.name.now c.split_once.result _ c.split_once.ensures.byte (λ w o h. h) c.in-Some.is in
    let m = c.args.self.now in
    let new = c.attach_pair.new.self in
    none_of (λ n. n + 1) c.in_ok-size-in-Some.size c.args.create c.in_ok-size-in-Some.ensures.more c.attach_pair.ensures.by_names (λ goes.
    pair_by_name c.args.name.now _ _ (λ d. g.A.Attach.left_behind d (first_name c.args.name.now)) (λ d. g.B.Attach.left_behind d (second_name c.args.name.now))
    g.A.Device.call_count g.B.Device.call_count m.first new.first m.second new.second cut.2
    (λ e. some_is c.is_empty.result c.in-Some.second.now c.is_empty.ensures c.if-is_empty.false (cut.1 ∙ e))
    (subst (λ first. (x y : Image) → g.A.Attach.shows m.first first ≡ Some x → g.B.Attach.shows m.second (second_name c.args.name.now) ≡ Some y → 0 < length x → length x ≡ length y
    → GoesAsBefore (λ d. g.A.Attach.left_behind d first) (λ d. g.B.Attach.left_behind d (second_name c.args.name.now)) g.A.Device.call_count g.B.Device.call_count
    (IsLeftOf (Pair Both) (length x) (length x)) m.first m.second new.first new.second) cut.0
    (subst (λ second. (x y : Image) → g.A.Attach.shows m.first c.in-Some.first.now ≡ Some x → g.B.Attach.shows m.second second ≡ Some y → 0 < length x → length x ≡ length y
    → GoesAsBefore (λ d. g.A.Attach.left_behind d c.in-Some.first.now) (λ d. g.B.Attach.left_behind d second) g.A.Device.call_count g.B.Device.call_count
    (IsLeftOf (Pair Both) (length x) (length x)) m.first m.second new.first new.second) cut.1 goes)))

-- ---- what is known, and the second half

pub returns-else-is_empty-clause-second_kept : goal.returns-else-is_empty-clause-second_kept
returns-else-is_empty-clause-second_kept g c = λ none.
    let cut = split_some _ c.args.name.now c.split_once.result _ c.split_once.ensures.byte (λ w o h. h) c.in-Some.is in
    absurd (some_is c.is_empty.result c.in-Some.second.now c.is_empty.ensures c.if-is_empty.false (cut.1 ∙ none cut.2))

pub returns-in_ok-attach_member-in-Some-clause-second_kept : goal.returns-in_ok-attach_member-in-Some-clause-second_kept
returns-in_ok-attach_member-in-Some-clause-second_kept g c = λ _. ap (λ m. m.second) c.attach_member.ensures.after

pub returns-in_err-attach_member-in-Some-clause-second_kept : goal.returns-in_err-attach_member-in-Some-clause-second_kept
returns-in_err-attach_member-in-Some-clause-second_kept g c = λ _. ap (λ m. m.second) c.attach_member.ensures.after

pub returns-in_ok-attach-in-None-clause-told : goal.returns-in_ok-attach-in-None-clause-told
returns-in_ok-attach-in-None-clause-told g c =
    some_then c.args.create c.in_ok-attach-in-None.ensures.told (λ n e. ap (λ t. t && is_some (g.B.Device.contents c.args.self.now.second)) e)

pub returns-in_ok-attach_member-in-Some-clause-told : goal.returns-in_ok-attach_member-in-Some-clause-told
returns-in_ok-attach_member-in-Some-clause-told g c =
    let after = c.attach_member.ensures.after in
    sized_then (λ n. n + 1) c.in_ok-size-in-Some.size c.args.create c.in_ok-size-in-Some.ensures.more c.in_ok-attach_member-in-Some.ensures.told (λ e.
    ap (λ t. t && is_some (g.B.Device.contents c.attach_member.new.self.second)) e
    ∙ ap (λ m. is_some (g.A.Device.contents c.args.self.now.first) && is_some (g.B.Device.contents m)) (ap (λ m. m.second) after))

pub returns-else-is_empty-clause-told : goal.returns-else-is_empty-clause-told
returns-else-is_empty-clause-told g c =
    ok_sized (are_told g.A.Device g.B.Device c.attach_pair.new.self ≡ are_told g.A.Device g.B.Device c.args.self.now) (λ n. n + 1) c.attach_pair.result c.in_ok-size-in-Some.size c.args.create c.in_ok-size-in-Some.ensures.more c.attach_pair.ensures.told
