use Rattle.std.proofs.Common.{◌++◌, ◌+◌, List, drop, get_or, refl, sym, ◌∙◌, ap, subst, arith, append-nil, append_assoc}
use Rattle.bd_command.specs.declared.Command.{Command}
use Rattle.bd_stream.specs.Importing.{IsSound, State, Turn, state_of, taken, fed}
use Rattle.bd_stream.proofs.FedLemmas.{taken_sound, fed-drop, fed-end}
use Rattle.bd_stream.proofs.machine.Machine.take_all.Goals as goal

pub loop-byte-preserved : goal.loop-byte-preserved
loop-byte-preserved c =
    let bytes = c.args.bytes.now in
    let i = c.loop-byte.byte-index in
    let old = state_of c.loop-byte.self in
    let rest = drop (i + 1) bytes in
    let b = get_or bytes i 0 in
    let step = fed-drop old bytes i b c.loop-byte-test.true refl in
    let state = c.in_ok-take.ensures.state in
    let made = c.in_ok-take.ensures.made in
    let front = c.loop-byte.made.items in
    record {
      sound = subst IsSound (sym state) (taken_sound old b c.loop-byte.invariant.sound);
      state = ap (λ (s : State). (fed s rest).0) state ∙ sym (ap (λ (t : Turn). t.0) step) ∙ c.loop-byte.invariant.state;
      made = ap (λ (l : List Command). l ++ (fed (state_of c.take.new.self) rest).1) made
          ∙ ap (λ (s : State). (front ++ (taken old b).1) ++ (fed s rest).1) state
          ∙ append_assoc front (taken old b).1 (fed (taken old b).0 rest).1
          ∙ ap (λ (t : Turn). front ++ t.1) (sym step) ∙ c.loop-byte.invariant.made;
    }

pub returns-clause-state : goal.returns-clause-state
returns-clause-state c =
    let end = fed-end (state_of c.loop-byte.self) c.args.bytes.now c.loop-byte.byte-index (omega arith) in
    sym (ap (λ (t : Turn). t.0) end) ∙ c.loop-byte.invariant.state

pub returns-clause-made : goal.returns-clause-made
returns-clause-made c =
    let end = fed-end (state_of c.loop-byte.self) c.args.bytes.now c.loop-byte.byte-index (omega arith) in
    sym (append-nil c.loop-byte.made.items) ∙ ap (λ (t : Turn). c.loop-byte.made.items ++ t.1) (sym end) ∙ c.loop-byte.invariant.made
