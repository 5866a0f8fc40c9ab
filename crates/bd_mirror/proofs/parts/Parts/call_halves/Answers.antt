use Rattle.std.proofs.Common.{◌-◌, ◌≤◌, min, false, true, refl, sym, ◌∙◌, arith}
use Rattle.bd_device.proofs.Changes.{stays_same}
use Rattle.bd_device.proofs.Images.{OnErr-always}
use Rattle.bd_device.proofs.Refusals.{OnOk-then}
use Rattle.bd_mirror.specs.declared.halves.Halves.TheVariants.{Neither}
use Rattle.bd_mirror.specs.Writing.{bytes_of}
use Rattle.bd_mirror.proofs.Copies.{elapses_none}
use Rattle.bd_mirror.proofs.Marks.{OnErr-then, at_ok, at_err, either_way, OnOk-always, nothing_did, first_did, second_did, both_did, marked_both, marked_first, marked_second, marked_on_first, marked_on_second, kept_first, kept_second, lost_second}
use Rattle.bd_mirror.proofs.Leaves.{within_pair, within_first, within_second, both_closed, since_call, since_mark, mark_call, mark_now, neither_leaves, inside_both, inside_first, inside_second, marks_both, marks_first, marks_second, marks_first_alone, marks_second_alone, one_alone, one_both}
use Rattle.bd_mirror.proofs.Told.{known_after, known_stays, told_by}
use Rattle.bd_mirror.proofs.parts.Parts.call_halves.Goals as goal

pub returns-in-Neither-clause-others : goal.returns-in-Neither-clause-others
returns-in-Neither-clause-others g c = λ _. nothing_did c.args.call _

pub returns-in-First-clause-done : goal.returns-in-First-clause-done
returns-in-First-clause-done g c =
    let m = c.args.self.now in
    OnOk-then c.make.result c.make.ensures.done (λ e marked.
    first_did c.args.call m.attached (g.A.Device.block_count m.first) (g.B.Device.block_count m.second) (g.A.Device.block_count c.make.new.half) (bytes_of c.args.call)
    (g.A.Device.contents m.first) (g.B.Device.contents m.second) (g.A.Device.contents c.make.new.half) (sym c.halves.ensures ∙ c.in-First.is) marked c.requires.within c.make.ensures.stays.count e)

pub returns-in-First-clause-others : goal.returns-in-First-clause-others
returns-in-First-clause-others g c =
    let m = c.args.self.now in
    OnErr-then c.make.result c.make.ensures.others (λ changed marked. (
      changed.0,
      first_did c.args.call m.attached (g.A.Device.block_count m.first) (g.B.Device.block_count m.second) (g.A.Device.block_count c.make.new.half) changed.0
          (g.A.Device.contents m.first) (g.B.Device.contents m.second) (g.A.Device.contents c.make.new.half) (sym c.halves.ensures ∙ c.in-First.is) marked c.requires.within c.make.ensures.stays.count changed.1,
    ))

pub returns-in-Second-clause-done : goal.returns-in-Second-clause-done
returns-in-Second-clause-done g c =
    let m = c.args.self.now in
    let new = c.make-in-Second.new.half in
    OnOk-then c.make-in-Second.result c.make-in-Second.ensures.done (λ e marked.
    second_did c.args.call m.attached (g.A.Device.block_count m.first) (g.B.Device.block_count m.second) (g.B.Device.block_count new) (bytes_of c.args.call)
    (g.A.Device.contents m.first) (g.B.Device.contents m.second) (g.B.Device.contents new) (sym c.halves.ensures ∙ c.in-Second.is) marked c.requires.within c.make-in-Second.ensures.stays.count e)

pub returns-in-Second-clause-others : goal.returns-in-Second-clause-others
returns-in-Second-clause-others g c =
    let m = c.args.self.now in
    let new = c.make-in-Second.new.half in
    OnErr-then c.make-in-Second.result c.make-in-Second.ensures.others (λ changed marked. (
      changed.0,
      second_did c.args.call m.attached (g.A.Device.block_count m.first) (g.B.Device.block_count m.second) (g.B.Device.block_count new) changed.0
          (g.A.Device.contents m.first) (g.B.Device.contents m.second) (g.B.Device.contents new) (sym c.halves.ensures ∙ c.in-Second.is) marked c.requires.within c.make-in-Second.ensures.stays.count changed.1,
    ))

pub returns-in-Ok-Ok-clause-done : goal.returns-in-Ok-Ok-clause-done
returns-in-Ok-Ok-clause-done g c = λ _.
    both_did c.args.call c.args.self.now.attached _ _ _ _ (bytes_of c.args.call) _ _ _ _ c.requires.within c.make-first.ensures.stays.count c.make-second.ensures.stays.count
    (at_ok c.in-Ok-Ok.is-0 c.make-first.ensures.done) (at_ok c.in-Ok-Ok.is-1 c.make-second.ensures.done)

pub returns-in-Ok-Ok-clause-mirror : goal.returns-in-Ok-Ok-clause-mirror
returns-in-Ok-Ok-clause-mirror g c = λ marked.
    marked_both c.args.call c.args.self.now.attached _ _ _ _ (bytes_of c.args.call) _ _ _ _ (sym c.halves.ensures ∙ c.in-Both.is) c.requires.within c.make-first.ensures.stays.count c.make-second.ensures.stays.count
    (at_ok c.in-Ok-Ok.is-0 c.make-first.ensures.done) (at_ok c.in-Ok-Ok.is-1 c.make-second.ensures.done) marked

pub returns-in-Ok-Err-clause-done : goal.returns-in-Ok-Err-clause-done
returns-in-Ok-Err-clause-done g c =
    let torn = at_err c.in-Ok-Err.is-1 c.make-second.ensures.others in
    OnOk-always c.go_on_alone.result (λ marked.
    kept_first c.args.call c.args.self.now.attached c.go_on_alone.new.attached _ _ _ (g.A.Device.block_count c.make-first.new.half) _ _ (bytes_of c.args.call) torn.0 _ _ (g.A.Device.contents c.make-first.new.half) _ _ (sym c.halves.ensures ∙ c.in-Both.is) marked c.requires.within
    c.go_on_alone.ensures.alone c.make-first.ensures.stays.count c.go_on_alone.ensures.stays.count c.make-second.ensures.stays.count
    (at_ok c.in-Ok-Err.is-0 c.make-first.ensures.done) torn.1 c.go_on_alone.ensures.others)

pub returns-in-Ok-Err-clause-others : goal.returns-in-Ok-Err-clause-others
returns-in-Ok-Err-clause-others g c =
    let torn = at_err c.in-Ok-Err.is-1 c.make-second.ensures.others in
    OnErr-always c.go_on_alone.result (λ marked. (
      bytes_of c.args.call,
      kept_first c.args.call c.args.self.now.attached c.go_on_alone.new.attached _ _ _ (g.A.Device.block_count c.make-first.new.half) _ _ (bytes_of c.args.call) torn.0 _ _ (g.A.Device.contents c.make-first.new.half) _ _ (sym c.halves.ensures ∙ c.in-Both.is) marked c.requires.within
          c.go_on_alone.ensures.alone c.make-first.ensures.stays.count c.go_on_alone.ensures.stays.count c.make-second.ensures.stays.count
          (at_ok c.in-Ok-Err.is-0 c.make-first.ensures.done) torn.1 c.go_on_alone.ensures.others,
    ))

pub returns-in-Err-Ok-clause-done : goal.returns-in-Err-Ok-clause-done
returns-in-Err-Ok-clause-done g c =
    let torn = at_err c.in-Err-Ok.is-0 c.make-first.ensures.others in
    let new = c.go_on_alone-in-Err-Ok.new in
    OnOk-then c.go_on_alone-in-Err-Ok.result c.go_on_alone-in-Err-Ok.ensures.opened (λ opened marked.
    kept_second c.args.call c.args.self.now.attached new.attached _ _ _ (g.B.Device.block_count c.make-second.new.half) _ _ (bytes_of c.args.call) torn.0 _ _ (g.B.Device.contents c.make-second.new.half) _ _ (sym c.halves.ensures ∙ c.in-Both.is) marked c.requires.within
    c.go_on_alone-in-Err-Ok.ensures.alone c.make-second.ensures.stays.count c.go_on_alone-in-Err-Ok.ensures.stays.count c.make-first.ensures.stays.count
    (at_ok c.in-Err-Ok.is-1 c.make-second.ensures.done) torn.1 c.go_on_alone-in-Err-Ok.ensures.others opened)

pub returns-in-Err-Ok-clause-others : goal.returns-in-Err-Ok-clause-others
returns-in-Err-Ok-clause-others g c =
    let torn = at_err c.in-Err-Ok.is-0 c.make-first.ensures.others in
    let new = c.go_on_alone-in-Err-Ok.new in
    OnErr-always c.go_on_alone-in-Err-Ok.result (λ marked.
    lost_second c.args.call c.args.self.now.attached new.attached _ _ _ (g.B.Device.block_count c.make-second.new.half) _ _ (bytes_of c.args.call) torn.0 _ _ (g.B.Device.contents c.make-second.new.half) _ _ (sym c.halves.ensures ∙ c.in-Both.is) marked c.requires.within
    c.go_on_alone-in-Err-Ok.ensures.alone c.make-second.ensures.stays.count c.go_on_alone-in-Err-Ok.ensures.stays.count c.make-first.ensures.stays.count
    (at_ok c.in-Err-Ok.is-1 c.make-second.ensures.done) torn.1 c.go_on_alone-in-Err-Ok.ensures.others)

pub returns-in-Err-Err-clause-others : goal.returns-in-Err-Err-clause-others
returns-in-Err-Err-clause-others g c =
    let one = at_err c.in-Err-Err.is-0 c.make-first.ensures.others in
    let two = at_err c.in-Err-Err.is-1 c.make-second.ensures.others in
    λ marked. (
      one.0,
      kept_first c.args.call c.args.self.now.attached c.with-self.result Neither _ _ (g.A.Device.block_count c.make-first.new.half) _ _ one.0 two.0 _ _ (g.A.Device.contents c.make-first.new.half) _ _ (sym c.halves.ensures ∙ c.in-Both.is) marked c.requires.within
          c.with-self.ensures c.make-first.ensures.stays.count refl c.make-second.ensures.stays.count one.1 two.1 (stays_same _ _),
    )

-- ---- its marks

pub returns-in-First-clause-mirror : goal.returns-in-First-clause-mirror
returns-in-First-clause-mirror g c = λ marked.
    marked_first c.args.call c.args.self.now.attached _ _ _ _ _ _ (sym c.halves.ensures ∙ c.in-First.is) c.requires.within c.make.ensures.stays.count
    (either_way c.make.result c.make.ensures.done c.make.ensures.others (λ e. (bytes_of c.args.call, e)) (λ changed. changed)) marked

pub returns-in-Second-clause-mirror : goal.returns-in-Second-clause-mirror
returns-in-Second-clause-mirror g c = λ marked.
    let made = c.make-in-Second in
    marked_second c.args.call c.args.self.now.attached _ _ _ _ _ _ (sym c.halves.ensures ∙ c.in-Second.is) c.requires.within made.ensures.stays.count
    (either_way made.result made.ensures.done made.ensures.others (λ e. (bytes_of c.args.call, e)) (λ changed. changed)) marked

pub returns-in-Ok-Err-clause-mirror : goal.returns-in-Ok-Err-clause-mirror
returns-in-Ok-Err-clause-mirror g c = λ marked.
    let torn = at_err c.in-Ok-Err.is-1 c.make-second.ensures.others in
    marked_on_first c.go_on_alone.result c.args.call c.args.self.now.attached c.go_on_alone.new.attached _ _ (g.A.Device.block_count c.make-first.new.half) _ _ (bytes_of c.args.call) torn.0 _ _ (g.A.Device.contents c.make-first.new.half) _ _
    (sym c.halves.ensures ∙ c.in-Both.is) marked c.requires.within c.go_on_alone.ensures.alone c.make-first.ensures.stays.count c.go_on_alone.ensures.stays.count c.make-second.ensures.stays.count
    (at_ok c.in-Ok-Err.is-0 c.make-first.ensures.done) torn.1 c.go_on_alone.ensures.others c.go_on_alone.ensures.opened

pub returns-in-Err-Ok-clause-mirror : goal.returns-in-Err-Ok-clause-mirror
returns-in-Err-Ok-clause-mirror g c = λ marked.
    let torn = at_err c.in-Err-Ok.is-0 c.make-first.ensures.others in
    let went = c.go_on_alone-in-Err-Ok in
    marked_on_second went.result c.args.call c.args.self.now.attached went.new.attached _ _ (g.B.Device.block_count c.make-second.new.half) _ _ (bytes_of c.args.call) torn.0 _ _ (g.B.Device.contents c.make-second.new.half) _ _
    (sym c.halves.ensures ∙ c.in-Both.is) marked c.requires.within went.ensures.alone c.make-second.ensures.stays.count went.ensures.stays.count c.make-first.ensures.stays.count
    (at_ok c.in-Err-Ok.is-1 c.make-second.ensures.done) torn.1 went.ensures.others went.ensures.opened

-- ---- what a crash inside it may leave

pub returns-in-Neither-clause-inside : goal.returns-in-Neither-clause-inside
returns-in-Neither-clause-inside g c = λ _ _ x y lx ly. neither_leaves c.args.call _ _ _ _ _ x y lx ly

pub returns-in-Neither-clause-alone : goal.returns-in-Neither-clause-alone
returns-in-Neither-clause-alone g c = λ _. elapses_none _ _ _

pub returns-in-First-clause-marks : goal.returns-in-First-clause-marks
returns-in-First-clause-marks g c = λ _ keeps.
    let m = c.args.self.now in
    marks_first_alone c.args.call m.attached (g.A.Device.block_count m.first) (g.B.Device.block_count m.second) _ _ _ _ (sym c.halves.ensures ∙ c.in-First.is) c.requires.within c.make.ensures.stays.count
    (λ lt have. mark_now c.args.call (g.A.Device.block_count m.first - 1) true lt c.make.ensures.time (g.met.A.Device.since_earlier c.make.new.half) have) keeps

pub returns-in-First-clause-inside : goal.returns-in-First-clause-inside
returns-in-First-clause-inside g c = λ has keeps x y lx ly.
    let m = c.args.self.now in
    let na = g.A.Device.block_count m.first in
    let nb = g.B.Device.block_count m.second in
    inside_first c.args.call m.attached na nb _ _ x y (sym c.halves.ensures ∙ c.in-First.is) has keeps
    (since_call c.args.call (min na nb - 1) (within_pair c.args.call m.attached na nb has c.requires.within) c.make.ensures.time x lx)
    (λ have. mark_call c.args.call (na - 1) true (within_first c.args.call m.attached na nb has c.requires.within) c.make.ensures.time have x lx) ly

pub returns-in-Second-clause-marks : goal.returns-in-Second-clause-marks
returns-in-Second-clause-marks g c = λ _ keeps.
    let m = c.args.self.now in
    let made = c.make-in-Second in
    marks_second_alone c.args.call m.attached (g.A.Device.block_count m.first) (g.B.Device.block_count m.second) _ _ _ _ (sym c.halves.ensures ∙ c.in-Second.is) c.requires.within made.ensures.stays.count
    (λ lt have. mark_now c.args.call (g.B.Device.block_count m.second - 1) true lt made.ensures.time (g.met.B.Device.since_earlier made.new.half) have) keeps

pub returns-in-Second-clause-inside : goal.returns-in-Second-clause-inside
returns-in-Second-clause-inside g c = λ has keeps x y lx ly.
    let m = c.args.self.now in
    let na = g.A.Device.block_count m.first in
    let nb = g.B.Device.block_count m.second in
    let made = c.make-in-Second in
    inside_second c.args.call m.attached na nb _ _ x y (sym c.halves.ensures ∙ c.in-Second.is) has keeps lx
    (since_call c.args.call (min na nb - 1) (within_pair c.args.call m.attached na nb has c.requires.within) made.ensures.time y ly)
    (λ have. mark_call c.args.call (nb - 1) true (within_second c.args.call m.attached na nb has c.requires.within) made.ensures.time have y ly)

pub returns-in-Second-clause-alone : goal.returns-in-Second-clause-alone
returns-in-Second-clause-alone g c = λ one. absurd (one_alone c.args.self.now.attached one (sym c.halves.ensures ∙ c.in-Second.is))

pub returns-in-Ok-Ok-clause-marks : goal.returns-in-Ok-Ok-clause-marks
returns-in-Ok-Ok-clause-marks g c = λ _ keeps.
    let m = c.args.self.now in
    let na = g.A.Device.block_count m.first in
    let nb = g.B.Device.block_count m.second in
    marks_both m.attached na nb _ _ _ _ (sym c.halves.ensures ∙ c.in-Both.is) c.make-first.ensures.stays.count c.make-second.ensures.stays.count
    (λ has. mark_now c.args.call (na - 1) false (within_first c.args.call m.attached na nb has c.requires.within) c.make-first.ensures.time (g.met.A.Device.since_earlier c.make-first.new.half) (both_closed m.attached na nb _ _ (sym c.halves.ensures ∙ c.in-Both.is) has keeps).0)
    (λ has. mark_now c.args.call (nb - 1) false (within_second c.args.call m.attached na nb has c.requires.within) c.make-second.ensures.time (g.met.B.Device.since_earlier c.make-second.new.half) (both_closed m.attached na nb _ _ (sym c.halves.ensures ∙ c.in-Both.is) has keeps).1)

pub returns-in-Ok-Ok-clause-inside : goal.returns-in-Ok-Ok-clause-inside
returns-in-Ok-Ok-clause-inside g c = λ has keeps x y lx ly.
    let m = c.args.self.now in
    let na = g.A.Device.block_count m.first in
    let nb = g.B.Device.block_count m.second in
    let lt = within_pair c.args.call m.attached na nb has c.requires.within in
    inside_both c.args.call m.attached na nb _ _ x y (sym c.halves.ensures ∙ c.in-Both.is) has keeps
    (since_call c.args.call (min na nb - 1) lt c.make-first.ensures.time x lx) (since_call c.args.call (min na nb - 1) lt c.make-second.ensures.time y ly)

pub returns-in-Ok-Err-clause-marks : goal.returns-in-Ok-Err-clause-marks
returns-in-Ok-Err-clause-marks g c = λ marked keeps.
    let m = c.args.self.now in
    let na = g.A.Device.block_count m.first in
    let nb = g.B.Device.block_count m.second in
    marks_first c.go_on_alone.result m.attached c.go_on_alone.new.attached na nb (g.A.Device.block_count c.make-first.new.half) _ _ (g.A.Device.contents m.first) (g.B.Device.contents m.second) (g.A.Device.contents c.go_on_alone.new.half) _ _
    (sym c.halves.ensures ∙ c.in-Both.is) marked c.go_on_alone.ensures.alone c.make-first.ensures.stays.count c.go_on_alone.ensures.stays.count c.make-second.ensures.stays.count
    c.go_on_alone.ensures.opened c.go_on_alone.ensures.durable
    (λ has. mark_now c.args.call (nb - 1) false (within_second c.args.call m.attached na nb has c.requires.within) c.make-second.ensures.time (g.met.B.Device.since_earlier c.make-second.new.half) (both_closed m.attached na nb _ _ (sym c.halves.ensures ∙ c.in-Both.is) has keeps).1)

pub returns-in-Ok-Err-clause-inside : goal.returns-in-Ok-Err-clause-inside
returns-in-Ok-Err-clause-inside g c = λ has keeps x y lx ly.
    let m = c.args.self.now in
    let na = g.A.Device.block_count m.first in
    let nb = g.B.Device.block_count m.second in
    let lt = within_pair c.args.call m.attached na nb has c.requires.within in
    let before : min na nb - 1 ≤ g.A.Device.block_count c.make-first.new.half - 1 = omega (arith, c.make-first.ensures.stays.count) in
    inside_both c.args.call m.attached na nb _ _ x y (sym c.halves.ensures ∙ c.in-Both.is) has keeps
    (since_mark c.args.call (min na nb - 1) (g.A.Device.block_count c.make-first.new.half - 1) lt before c.make-first.ensures.time c.go_on_alone.ensures.time (g.met.A.Device.since_earlier c.make-first.new.half) x lx)
    (since_call c.args.call (min na nb - 1) lt c.make-second.ensures.time y ly)

pub returns-in-Err-Ok-clause-marks : goal.returns-in-Err-Ok-clause-marks
returns-in-Err-Ok-clause-marks g c = λ marked keeps.
    let m = c.args.self.now in
    let na = g.A.Device.block_count m.first in
    let nb = g.B.Device.block_count m.second in
    let went = c.go_on_alone-in-Err-Ok in
    marks_second went.result m.attached went.new.attached na nb (g.B.Device.block_count c.make-second.new.half) _ _ (g.A.Device.contents m.first) (g.B.Device.contents m.second) (g.B.Device.contents went.new.half) _ _
    (sym c.halves.ensures ∙ c.in-Both.is) marked went.ensures.alone c.make-second.ensures.stays.count went.ensures.stays.count c.make-first.ensures.stays.count
    went.ensures.opened went.ensures.durable
    (λ has. mark_now c.args.call (na - 1) false (within_first c.args.call m.attached na nb has c.requires.within) c.make-first.ensures.time (g.met.A.Device.since_earlier c.make-first.new.half) (both_closed m.attached na nb _ _ (sym c.halves.ensures ∙ c.in-Both.is) has keeps).0)

pub returns-in-Err-Ok-clause-inside : goal.returns-in-Err-Ok-clause-inside
returns-in-Err-Ok-clause-inside g c = λ has keeps x y lx ly.
    let m = c.args.self.now in
    let na = g.A.Device.block_count m.first in
    let nb = g.B.Device.block_count m.second in
    let lt = within_pair c.args.call m.attached na nb has c.requires.within in
    let before : min na nb - 1 ≤ g.B.Device.block_count c.make-second.new.half - 1 = omega (arith, c.make-second.ensures.stays.count) in
    inside_both c.args.call m.attached na nb _ _ x y (sym c.halves.ensures ∙ c.in-Both.is) has keeps
    (since_call c.args.call (min na nb - 1) lt c.make-first.ensures.time x lx)
    (since_mark c.args.call (min na nb - 1) (g.B.Device.block_count c.make-second.new.half - 1) lt before c.make-second.ensures.time c.go_on_alone-in-Err-Ok.ensures.time (g.met.B.Device.since_earlier c.make-second.new.half) y ly)

pub returns-in-Err-Err-clause-inside : goal.returns-in-Err-Err-clause-inside
returns-in-Err-Err-clause-inside g c = λ has keeps x y lx ly.
    let m = c.args.self.now in
    let na = g.A.Device.block_count m.first in
    let nb = g.B.Device.block_count m.second in
    let lt = within_pair c.args.call m.attached na nb has c.requires.within in
    inside_both c.args.call m.attached na nb _ _ x y (sym c.halves.ensures ∙ c.in-Both.is) has keeps
    (since_call c.args.call (min na nb - 1) lt c.make-first.ensures.time x lx) (since_call c.args.call (min na nb - 1) lt c.make-second.ensures.time y ly)

pub returns-in-Ok-Ok-clause-alone : goal.returns-in-Ok-Ok-clause-alone
returns-in-Ok-Ok-clause-alone g c = λ one. absurd (one_both c.args.self.now.attached one (sym c.halves.ensures ∙ c.in-Both.is))

pub returns-in-Ok-Err-clause-alone : goal.returns-in-Ok-Err-clause-alone
returns-in-Ok-Err-clause-alone g c = λ one. absurd (one_both c.args.self.now.attached one (sym c.halves.ensures ∙ c.in-Both.is))

pub returns-in-Err-Ok-clause-alone : goal.returns-in-Err-Ok-clause-alone
returns-in-Err-Ok-clause-alone g c = λ one. absurd (one_both c.args.self.now.attached one (sym c.halves.ensures ∙ c.in-Both.is))

pub returns-in-Err-Err-clause-alone : goal.returns-in-Err-Err-clause-alone
returns-in-Err-Err-clause-alone g c = λ one. absurd (one_both c.args.self.now.attached one (sym c.halves.ensures ∙ c.in-Both.is))

-- ---- what is known

pub returns-in-First-clause-told : goal.returns-in-First-clause-told
returns-in-First-clause-told g c =
    told_by (g.A.Device.contents c.args.self.now.first) (g.A.Device.contents c.make.new.half) (g.B.Device.contents c.args.self.now.second) (g.B.Device.contents c.args.self.now.second)
    (known_after c.make.result c.args.call (bytes_of c.args.call) (g.A.Device.contents c.args.self.now.first) (g.A.Device.contents c.make.new.half) c.make.ensures.done c.make.ensures.others)
    refl

pub returns-in-Second-clause-told : goal.returns-in-Second-clause-told
returns-in-Second-clause-told g c =
    told_by (g.A.Device.contents c.args.self.now.first) (g.A.Device.contents c.args.self.now.first) (g.B.Device.contents c.args.self.now.second) (g.B.Device.contents c.make-in-Second.new.half)
    refl
    (known_after c.make-in-Second.result c.args.call (bytes_of c.args.call) (g.B.Device.contents c.args.self.now.second) (g.B.Device.contents c.make-in-Second.new.half) c.make-in-Second.ensures.done c.make-in-Second.ensures.others)

pub returns-in-Ok-Ok-clause-told : goal.returns-in-Ok-Ok-clause-told
returns-in-Ok-Ok-clause-told g c =
    told_by (g.A.Device.contents c.args.self.now.first) (g.A.Device.contents c.make-first.new.half) (g.B.Device.contents c.args.self.now.second) (g.B.Device.contents c.make-second.new.half)
    (known_after c.make-first.result c.args.call (bytes_of c.args.call) (g.A.Device.contents c.args.self.now.first) (g.A.Device.contents c.make-first.new.half) c.make-first.ensures.done c.make-first.ensures.others)
    (known_after c.make-second.result c.args.call (bytes_of c.args.call) (g.B.Device.contents c.args.self.now.second) (g.B.Device.contents c.make-second.new.half) c.make-second.ensures.done c.make-second.ensures.others)

pub returns-in-Ok-Err-clause-told : goal.returns-in-Ok-Err-clause-told
returns-in-Ok-Err-clause-told g c =
    told_by (g.A.Device.contents c.args.self.now.first) (g.A.Device.contents c.go_on_alone.new.half) (g.B.Device.contents c.args.self.now.second) (g.B.Device.contents c.make-second.new.half)
    (known_stays _ (g.A.Device.contents c.make-first.new.half) (g.A.Device.contents c.go_on_alone.new.half) c.go_on_alone.ensures.others ∙ (known_after c.make-first.result c.args.call (bytes_of c.args.call) (g.A.Device.contents c.args.self.now.first) (g.A.Device.contents c.make-first.new.half) c.make-first.ensures.done c.make-first.ensures.others))
    (known_after c.make-second.result c.args.call (bytes_of c.args.call) (g.B.Device.contents c.args.self.now.second) (g.B.Device.contents c.make-second.new.half) c.make-second.ensures.done c.make-second.ensures.others)

pub returns-in-Err-Ok-clause-told : goal.returns-in-Err-Ok-clause-told
returns-in-Err-Ok-clause-told g c =
    told_by (g.A.Device.contents c.args.self.now.first) (g.A.Device.contents c.make-first.new.half) (g.B.Device.contents c.args.self.now.second) (g.B.Device.contents c.go_on_alone-in-Err-Ok.new.half)
    (known_after c.make-first.result c.args.call (bytes_of c.args.call) (g.A.Device.contents c.args.self.now.first) (g.A.Device.contents c.make-first.new.half) c.make-first.ensures.done c.make-first.ensures.others)
    (known_stays _ (g.B.Device.contents c.make-second.new.half) (g.B.Device.contents c.go_on_alone-in-Err-Ok.new.half) c.go_on_alone-in-Err-Ok.ensures.others ∙ (known_after c.make-second.result c.args.call (bytes_of c.args.call) (g.B.Device.contents c.args.self.now.second) (g.B.Device.contents c.make-second.new.half) c.make-second.ensures.done c.make-second.ensures.others))

pub returns-in-Err-Err-clause-told : goal.returns-in-Err-Err-clause-told
returns-in-Err-Err-clause-told g c =
    told_by (g.A.Device.contents c.args.self.now.first) (g.A.Device.contents c.make-first.new.half) (g.B.Device.contents c.args.self.now.second) (g.B.Device.contents c.make-second.new.half)
    (known_after c.make-first.result c.args.call (bytes_of c.args.call) (g.A.Device.contents c.args.self.now.first) (g.A.Device.contents c.make-first.new.half) c.make-first.ensures.done c.make-first.ensures.others)
    (known_after c.make-second.result c.args.call (bytes_of c.args.call) (g.B.Device.contents c.args.self.now.second) (g.B.Device.contents c.make-second.new.half) c.make-second.ensures.done c.make-second.ensures.others)
