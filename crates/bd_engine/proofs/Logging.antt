-- The log of an engine.
use Rattle.std.proofs.Common.{◌≡◌, ℕ, ◌+◌, ◌≤◌, List, [], ◌∷◌, ◌++◌, length, refl, ap, ◌∙◌, arith, length-append, append-nil}
use Rattle.std.specs.List.{concat, AllByRecursion}
use Rattle.bd_wire.proofs.TextLemmas.{length-text16}
use Rattle.bd_command.specs.Log.{command_bytes, log_record, record_limit}
use Rattle.bd_command.specs.declared.Command.{Command}
use Rattle.bd_device.specs.declared.device.Device.{Ghosts}
use Rattle.bd_log.specs.Batches.{IsLogRecord}
use Rattle.bd_view.specs.Moves.{logged}
use Rattle.bd_engine.specs.Engines.{EngineState, view_of, IsStanding}

-- ---- a record

pub is_record : (c : Command) → length (log_record c) ≤ record_limit → IsLogRecord (log_record c)
is_record c few = (command_bytes c, omega (arith, few, length-text16 (command_bytes c)), refl)

-- a record more
pub waiting_more : (ws : List (List ℕ)) (r : List ℕ) → length (concat (ws ++ r ∷ [])) ≡ length (concat ws) + length r
waiting_more [] r = ap length (append-nil r) ∙ omega arith
waiting_more (w ∷ ws) r = omega (arith, length-append w (concat (ws ++ r ∷ [])), length-append w (concat ws), waiting_more ws r)

all_more : (ws : List (List ℕ)) (r : List ℕ) → AllByRecursion IsLogRecord ws → IsLogRecord r → AllByRecursion IsLogRecord (ws ++ r ∷ [])
all_more [] r each is = (is, tt)
all_more (w ∷ ws) r each is = (each.0, all_more ws r each.1 is)

-- where no bytes wait, no records do
pub none_wait : (ws : List (List ℕ)) → AllByRecursion IsLogRecord ws → length (concat ws) ≡ 0 → ws ≡ []
none_wait [] each none = refl
none_wait (w ∷ ws) each none =
    absurd (omega (arith, none, length-append w (concat ws), ap length each.0.2, length-text16 each.0.0))

-- ---- the engine

module _ {D : Type 0} (g : Ghosts D) (e : EngineState D) (c : Command) where
  abbrev pub appended : EngineState D
  appended = record e { log = record e.log { waiting = e.log.waiting ++ log_record c ∷ [] } }

  pub logged_standing : IsStanding g e → IsLogRecord (log_record c) → IsStanding g appended
  logged_standing h is = record {
    fits = h.fits;
    size = h.size;
    slots = h.slots;
    table = h.table;
    unlent = h.unlent;
    records = all_more e.log.waiting (log_record c) h.records is;
    going = λ on.
        let given = h.going on in
        record {
          fits = given.fits;
          size = given.size;
          live_is = given.live_is;
          settled = given.settled;
          each = given.each;
          at = given.at;
          log_is = record { first = given.log_is.first; epoch = given.log_is.epoch };
        };
    room = h.room;
    no_worse = h.no_worse;
  }

  pub logged_view : view_of g appended ≡ logged c (view_of g e)
  logged_view = λ i. record (view_of g e) { waiting = waiting_more e.log.waiting (log_record c) i }
