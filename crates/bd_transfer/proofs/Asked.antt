-- Questions and their replies put together.
use Rattle.std.proofs.Common.{◌≡◌, ◌⊎◌, ◌<◌, ℕ, Bool, true, false, List, [], ◌∷◌, ◌++◌, refl, sym, ap, subst, ◌∙◌, append_assoc, inl, inr, arith}
use Rattle.std.specs.Prelude.{IfOk, IfErr, not}
use Rattle.std.specs.List.{AllByRecursion}
use Rattle.std.specs.Io.KnownBytes.{append_known}
use Rattle.std.specs.declared.option.Option.{Option}
use Rattle.std.specs.declared.option.Option.TheVariants.{None, Some}
use Rattle.std.specs.declared.result.Result.{Result}
use Rattle.std.specs.declared.result.Result.TheVariants.{Ok, Err}
use Rattle.std.proofs.lemmas.List.{append-nil}
use Rattle.bd_io.specs.Written.{WrotePart}
use Rattle.bd_io.proofs.Written.{append_known-twice}
use Rattle.bd_command.specs.declared.Command.{Command}
use Rattle.bd_command.specs.declared.reply.Reply.{Reply}
use Rattle.bd_device.specs.declared.device.Device.{Ghosts}
use Rattle.bd_node.proofs.Lookup.{each_both}
use Rattle.bd_script.specs.declared.replies.LineReply.TheVariants.{Command as Replied, Full as NoRoom}
use Rattle.bd_sessions.specs.Spoken.{Spoken}
use Rattle.bd_sessions.specs.declared.replies.TurnReply.TheVariants.{Line as Said}
use Rattle.bd_stream.specs.Importing.{Path}
use Rattle.bd_stream.specs.Exporting.{Export, begin, asked, answered}
use Rattle.bd_stream.proofs.EndLemmas.{IsFair, answers_fall, measure}
use Rattle.bd_shell.specs.declared.fault.Fault.{Fault}
use Rattle.bd_shell.specs.declared.fault.Fault.TheVariants.{Device, Damaged, Source, Memory, TooLong, Worn, Sink}
use Rattle.bd_shell.specs.Transcript.{Known, State, Exchange, IsAnswered, HasTranscript, commanded, executed, synced_state, with_view}
use Rattle.bd_shell.specs.Session.{ClosedAt, Ends, Later, Tells}
use Rattle.bd_shell.specs.Fault.{IsCaused}
use Rattle.bd_shell.specs.Shell.{IsLineFault, TurnFails, counts_of}
use Rattle.bd_shell.proofs.Executes.{append_known-nil}
use Rattle.bd_shell.proofs.Lines.{fault_as}
use Rattle.bd_shell.proofs.Left.{leaves_as, leaves_later, leaves_nothing, leaves_worn}
use Rattle.bd_shell.proofs.Transcripts.{transcript_as, transcript_more, transcript_none, transcript_one}
use Rattle.bd_transfer.specs.declared.exporting.ExportEnd.{ExportEnd}
use Rattle.bd_transfer.specs.declared.exporting.ExportEnd.TheVariants.{Whole, Absent, LongPath, Full}
use Rattle.bd_transfer.specs.Asking.{replied, short, Question, Interviews, IsEnd, IsEndIf, EndsSo, EndsAsking, Asks, HasReply, TakesReply, TakesPart, HasShort, FailsQuestion, IsSame, AsksOne, AnswersPart, Came, Finishes, is_whole}

-- ---- one question

-- a reply that was taken, or not, or cut short
pub answer_one : (r : Result (Option ExportEnd) Fault) (s now : Export) (reply : Reply) (first last : State → Type 0) (old new : Known) → HasReply s reply first last
    → IfOk r (λ end. IsEndIf end now × (now ≡ (answered s reply).0) × (new ≡ append_known old (answered s reply).1)) → IfErr r (λ e. AnswersPart e s now reply old new)
    → AsksOne r s now first last old new
answer_one (Ok end) s now reply first last old new has ok err = inl (record { reply = reply; has = has; after = ok.1; ends = ok.0; written = ok.2 })
answer_one (Err e) s now reply first last old new has ok err = by err
  where
    by : AnswersPart e s now reply old new → AsksOne (Err e) s now first last old new
    by (inl m) = inr (inl (m.0, (reply, has), m.1))
    by (inr k) = inr (inr (k.0, record { reply = reply; has = has; after = k.1; part = k.2 }))

-- ---- some questions

-- an export went so far
pub record Going (top : Path) (first last : State → Type 0) (s : Export) (old new : Known) : Type 0 where
  pub exchanges : List Exchange
  pub answered : AllByRecursion IsAnswered exchanges
  pub out : List ℕ
  pub interview : Interviews (begin top) exchanges s out
  pub written : new ≡ append_known old out
  pub runs : (t : State) → first t → HasTranscript t exchanges last

pub going_none : (top : Path) (first : State → Type 0) (old : Known) → Going top first first (begin top) old old
going_none top first old = record {
  exchanges = [];
  answered = tt;
  out = [];
  interview = (refl, refl);
  written = sym (append_known-nil old);
  runs = λ t h. transcript_none t first h;
}

-- one question more
pub interview_more : (s mid : Export) (xs : List Exchange) (x : Exchange) (r : Reply) (out : List ℕ) → Interviews s xs mid out → Question mid x r
    → Interviews s (xs ++ x ∷ []) (answered mid r).0 (out ++ (answered mid r).1)
interview_more s mid [] x r out h q =
    (r, [], subst (λ m. Question m x r) h.0 q, ap (λ o. o ++ (answered mid r).1) h.1 ∙ ap (λ m. (answered m r).1) h.0 ∙ sym (append-nil (answered s r).1), (ap (λ m. (answered m r).0) h.0, refl))
interview_more s mid (y ∷ ys) x r out h q = (
  h.0,
  h.1 ++ (answered mid r).1,
  h.2,
  ap (λ o. o ++ (answered mid r).1) h.3 ∙ append_assoc (answered s h.0).1 h.1 (answered mid r).1,
  interview_more (answered s h.0).0 mid ys x r h.1 h.4 q,
)

question : (s : Export) (r : Reply) (first last : State → Type 0) → (h : HasReply s r first last) → Question s (replied h.command r) r
question s r first last h = record { command = h.command; asks = h.asks; exchange = refl }

-- a question whose reply was taken
pub going_more : (top : Path) (first mid last : State → Type 0) (end : Option ExportEnd) (s now : Export) (old m new : Known) → Going top first mid s old m
    → TakesReply end s now mid last m new → Going top first last now old new
going_more top first mid last end s now old m new g x =
    let line = replied x.has.command x.reply in
    record {
      exchanges = g.exchanges ++ line ∷ [];
      answered = each_both IsAnswered g.exchanges (line ∷ []) g.answered (x.has.answered, tt);
      out = g.out ++ (answered s x.reply).1;
      interview = subst (λ e. Interviews (begin top) (g.exchanges ++ line ∷ []) e (g.out ++ (answered s x.reply).1)) (sym x.after)
          (interview_more (begin top) s g.exchanges line x.reply g.out g.interview (question s x.reply mid last x.has));
      written = x.written ∙ ap (λ k. append_known k (answered s x.reply).1) g.written ∙ append_known-twice old g.out (answered s x.reply).1;
      runs = λ t h. transcript_more t g.exchanges (line ∷ []) mid last (g.runs t h) (λ u at. transcript_one u (commanded x.has.command) (Said (Replied x.reply)) last (x.has.runs u at));
    }

-- ---- ends

ends_so : (e : ExportEnd) (top : Path) (first last : State → Type 0) (s : Export) (old new : Known) → (g : Going top first last s old new) → IsEnd e s
    → EndsSo e s g.exchanges g.exchanges g.out old new
ends_so Whole top first last s old new g h = (h, record { exchanges = refl; written = g.written })
ends_so Absent top first last s old new g h = (h, record { exchanges = refl; written = g.written })
ends_so LongPath top first last s old new g h = (h, record { exchanges = refl; written = g.written })
ends_so Full top first last s old new g h = absurd h

-- nothing is asked any more
pub asks_end : (e : ExportEnd) (top : Path) (first last : State → Type 0) (s : Export) (old new : Known) → Going top first last s old new → IsEnd e s
    → Asks (Ok e) top first last old new
asks_end e top first last s old new g h = record {
  exchanges = g.exchanges;
  answered = g.answered;
  front = g.exchanges;
  export = s;
  out = g.out;
  interview = g.interview;
  came = ends_so e top first last s old new g h;
  runs = λ t at. transcript_as t g.exchanges last (EndsAsking None s g.exchanges g.exchanges last) (g.runs t at) (λ u here. record { told = λ lines for. tt; reached = here });
}

-- the last question was answered that slots are short
pub asks_short : (top : Path) (first mid last : State → Type 0) (s now : Export) (old m new : Known) → Going top first mid s old m → HasShort s mid last → IsSame s now m new
    → Asks (Ok Full) top first last old new
asks_short top first mid last s now old m new g x same =
    let line = short x.command x.free x.need in
    record {
      exchanges = g.exchanges ++ line ∷ [];
      answered = each_both IsAnswered g.exchanges (line ∷ []) g.answered (x.answered, tt);
      front = g.exchanges;
      export = s;
      out = g.out;
      interview = g.interview;
      came = record { command = x.command; asks = x.asks; free = x.free; need = x.need; exchanges = refl; written = same.1 ∙ g.written };
      runs = λ t at. transcript_as t (g.exchanges ++ line ∷ []) last (EndsAsking None s g.exchanges (g.exchanges ++ line ∷ []) last)
          (transcript_more t g.exchanges (line ∷ []) mid last (g.runs t at) (λ u here. transcript_one u (commanded x.command) (Said (NoRoom x.free x.need)) last (x.runs u here)))
          (λ u here. record { told = λ lines for. tt; reached = here });
    }

-- there was no memory, and all replies were taken
pub asks_none : (top : Path) (first last : State → Type 0) (s : Export) (old new : Known) → Going top first last s old new → Asks (Err Memory) top first last old new
asks_none top first last s old new g = record {
  exchanges = g.exchanges;
  answered = g.answered;
  front = g.exchanges;
  export = s;
  out = g.out;
  interview = g.interview;
  came = record { exchanges = inl refl; written = g.written };
  runs = λ t at. transcript_as t g.exchanges last (EndsAsking (Some Memory) s g.exchanges g.exchanges last) (g.runs t at)
      (λ u here. record { told = λ lines for. tt; reached = leaves_nothing u last here });
}

-- or one wasn't
pub asks_untaken : (top : Path) (first mid last : State → Type 0) (s now : Export) (r : Reply) (old m new : Known) → Going top first mid s old m → HasReply s r mid last → IsSame s now m new
    → Asks (Err Memory) top first last old new
asks_untaken top first mid last s now r old m new g x same =
    let line = replied x.command r in
    record {
      exchanges = g.exchanges ++ line ∷ [];
      answered = each_both IsAnswered g.exchanges (line ∷ []) g.answered (x.answered, tt);
      front = g.exchanges;
      export = s;
      out = g.out;
      interview = g.interview;
      came = record { exchanges = inr (line, r, question s r mid last x, refl); written = same.1 ∙ g.written };
      runs = λ t at. transcript_as t (g.exchanges ++ line ∷ []) last (EndsAsking (Some Memory) s g.exchanges (g.exchanges ++ line ∷ []) last)
          (transcript_more t g.exchanges (line ∷ []) mid last (g.runs t at) (λ u here. transcript_one u (commanded x.command) (Said (Replied r)) last (x.runs u here)))
          (λ u here. record { told = λ lines for. tt; reached = leaves_nothing u last here });
    }

-- a part of what the last reply gives was written
pub asks_cut : (top : Path) (first mid last : State → Type 0) (s now : Export) (old m new : Known) → Going top first mid s old m → TakesPart s now mid last m new
    → Asks (Err Sink) top first last old new
asks_cut top first mid last s now old m new g x =
    let line = replied x.has.command x.reply in
    let q = question s x.reply mid last x.has in
    record {
      exchanges = g.exchanges ++ line ∷ [];
      answered = each_both IsAnswered g.exchanges (line ∷ []) g.answered (x.has.answered, tt);
      front = g.exchanges ++ line ∷ [];
      export = now;
      out = g.out ++ (answered s x.reply).1;
      interview = subst (λ e. Interviews (begin top) (g.exchanges ++ line ∷ []) e (g.out ++ (answered s x.reply).1)) (sym x.after)
          (interview_more (begin top) s g.exchanges line x.reply g.out g.interview q);
      came = inl (
        refl,
        record {
          before = g.exchanges;
          last = line;
          exchanges = refl;
          middle = s;
          out = g.out;
          interview = g.interview;
          reply = x.reply;
          question = q;
          after = x.after;
          part = subst (λ k. WrotePart (answered s x.reply).1 k new) g.written x.part;
        },
      );
      runs = λ t at. transcript_as t (g.exchanges ++ line ∷ []) last (EndsAsking (Some Sink) now (g.exchanges ++ line ∷ []) (g.exchanges ++ line ∷ []) last)
          (transcript_more t g.exchanges (line ∷ []) mid last (g.runs t at) (λ u here. transcript_one u (commanded x.has.command) (Said (Replied x.reply)) last (x.has.runs u here)))
          (λ u here. record { told = λ lines for. tt; reached = here });
    }

-- what a fault before a reply leaves
module _ (s : Export) (xs : List Exchange) (c : Command) (asks : asked s ≡ Some c) (last : State → Type 0) where
  same_next : (d : Command) → asked s ≡ Some d → d ≡ c
  same_next d is = some_same d c (sym is ∙ asks)
    where
      some_same : (a b : Command) → Some a ≡ Some b → a ≡ b
      some_same a b e = cc

  fails : (e : Fault) → IsLineFault e → (u : State) → TurnFails e u (commanded c) last → EndsAsking (Some e) s xs xs last u
  fails Device kind u h = record { told = λ lines for. tt; reached = (commanded c, h) }
  fails (Damaged block) kind u h = absurd h
  fails Source kind u h = absurd kind
  fails Memory kind u h = record { told = λ lines for. tt; reached = (commanded c, h) }
  fails TooLong kind u h = absurd kind
  fails (Worn which) kind u h = record {
    told = λ lines for. record {
      next = commanded c;
      has = record { rest = []; lines_are = for.2 ∙ ap (λ d. executed xs ++ commanded d ∷ []) (same_next for.0 for.1) };
      left = h.left;
      worn = h.worn;
    };
    reached = leaves_worn which u (commanded c) last h;
  }
  fails Sink kind u h = absurd kind

fails_so : (e : Fault) (top : Path) (first mid : State → Type 0) (s : Export) (old m new : Known) (c : Command) → asked s ≡ Some c → IsLineFault e → (g : Going top first mid s old m) → new ≡ m
    → Came (Err e) top s g.exchanges g.exchanges g.out old new
fails_so Device top first mid s old m new c asks kind g same = inl (record { command = c; asks = asks; all = record { exchanges = refl; written = same ∙ g.written } })
fails_so (Damaged block) top first mid s old m new c asks kind g same = record { command = c; asks = asks; all = record { exchanges = refl; written = same ∙ g.written } }
fails_so Source top first mid s old m new c asks kind g same = absurd kind
fails_so Memory top first mid s old m new c asks kind g same = record { exchanges = inl refl; written = same ∙ g.written }
fails_so TooLong top first mid s old m new c asks kind g same = absurd kind
fails_so (Worn which) top first mid s old m new c asks kind g same = record { command = c; asks = asks; all = record { exchanges = refl; written = same ∙ g.written } }
fails_so Sink top first mid s old m new c asks kind g same = absurd kind

pub asks_fails : (e : Fault) (top : Path) (first mid last : State → Type 0) (s now : Export) (old m new : Known) → Going top first mid s old m → FailsQuestion e s mid last → IsSame s now m new
    → Asks (Err e) top first last old new
asks_fails e top first mid last s now old m new g x same = record {
  exchanges = g.exchanges;
  answered = g.answered;
  front = g.exchanges;
  export = s;
  out = g.out;
  interview = g.interview;
  came = fails_so e top first mid s old m new x.command x.asks x.kind g same.1;
  runs = λ t at. transcript_as t g.exchanges mid (EndsAsking (Some e) s g.exchanges g.exchanges last) (g.runs t at)
      (λ u here. fails s g.exchanges x.command x.asks last e x.kind u (x.leaves u here));
}

-- ---- what a question does to a loop

-- a fault of one
pub asks_err : (e : Fault) (top : Path) (first mid last : State → Type 0) (s now : Export) (old m new : Known) → Going top first mid s old m → AsksOne (Err e) s now mid last m new
    → Asks (Err e) top first last old new
asks_err e top first mid last s now old m new g (inl h) = asks_fails e top first mid last s now old m new g h.0 h.1
asks_err e top first mid last s now old m new g (inr (inl h)) =
    subst (λ k. Asks (Err k) top first last old new) (sym h.0) (asks_untaken top first mid last s now h.1.0 old m new g h.1.1 h.2)
asks_err e top first mid last s now old m new g (inr (inr h)) = subst (λ k. Asks (Err k) top first last old new) (sym h.0) (asks_cut top first mid last s now old m new g h.1)

-- the last one
pub asks_last : (e : ExportEnd) (top : Path) (first mid last : State → Type 0) (s now : Export) (old m new : Known) → Going top first mid s old m → AsksOne (Ok (Some e)) s now mid last m new
    → Asks (Ok e) top first last old new
asks_last e top first mid last s now old m new g (inl h) = asks_end e top first last now old new (going_more top first mid last (Some e) s now old m new g h) h.ends
asks_last e top first mid last s now old m new g (inr h) =
    subst (λ k. Asks (Ok k) top first last old new) (sym (same e Full h.0)) (asks_short top first mid last s now old m new g h.1 h.2)
  where
    same : (a b : ExportEnd) → Some a ≡ Some b → a ≡ b
    same a b is = cc

-- one after which more may be asked
pub one_more : (s now : Export) (mid last : State → Type 0) (m new : Known) → AsksOne (Ok None) s now mid last m new → TakesReply None s now mid last m new
one_more s now mid last m new (inl h) = h
one_more s now mid last m new (inr h) = absurd (never h.0)
  where
    never : None ≡ Some Full → ⊥
    never is = cc

-- less is left to ask
pub fair_more : (s now : Export) (mid last : State → Type 0) (m new : Known) → IsFair s → TakesReply None s now mid last m new → IsFair now
fair_more s now mid last m new fair x = subst IsFair (sym x.after) (answers_fall s x.reply x.has.command fair x.has.asks).fair

pub less_more : (s now : Export) (mid last : State → Type 0) (m new : Known) → IsFair s → TakesReply None s now mid last m new → measure now < measure s
less_more s now mid last m new fair x = subst (λ e. measure e < measure s) (sym x.after) (answers_fall s x.reply x.has.command fair x.has.asks).fewer

pub none_of : {A : Type 0} (o : Option A) → ((x : A) → o ≡ Some x → ⊥) → o ≡ None
none_of None not = refl
none_of (Some x) not = absurd (not x refl)

-- ---- the end

-- the same was written
ends_same : (e : ExportEnd) (s : Export) (front xs : List Exchange) (out : List ℕ) (old m new : Known) → new ≡ m → EndsSo e s front xs out old m → EndsSo e s front xs out old new
ends_same e s front xs out old m new same h = subst (EndsSo e s front xs out old) (sym same) h

-- what follows the last reply
module _ (top : Path) (first mid last : State → Type 0) (old m new : Known) (same : new ≡ m) where
  pub finish_ok : (end : ExportEnd) → Asks (Ok end) top first mid old m → ((s : State) → mid s → last s) → Asks (Ok end) top first last old new
  finish_ok end a more = record {
    exchanges = a.exchanges;
    answered = a.answered;
    front = a.front;
    export = a.export;
    out = a.out;
    interview = a.interview;
    came = ends_same end a.export a.front a.exchanges a.out old m new same a.came;
    runs = λ t at. transcript_as t a.exchanges (EndsAsking None a.export a.front a.exchanges mid) (EndsAsking None a.export a.front a.exchanges last) (a.runs t at)
        (λ u h. record { told = λ lines for. tt; reached = more u h.reached });
  }

  finish_err : (e : Fault) (end : ExportEnd) → (a : Asks (Ok end) top first mid old m) → Came (Err e) top a.export a.front a.exchanges a.out old new
      → ((u : State) (lines : List Spoken) → Tells (Some e) u (executed a.exchanges) lines) → ((s : State) → mid s → Ends (Some e) s last)
      → Asks (Err e) top first last old new
  finish_err e end a came told more = record {
    exchanges = a.exchanges;
    answered = a.answered;
    front = a.front;
    export = a.export;
    out = a.out;
    interview = a.interview;
    came = came;
    runs = λ t at. transcript_as t a.exchanges (EndsAsking None a.export a.front a.exchanges mid) (EndsAsking (Some e) a.export a.front a.exchanges last) (a.runs t at)
        (λ u h. record { told = λ lines for. told u lines; reached = more u h.reached });
  }

  pub finish_sink : (end : ExportEnd) → Asks (Ok end) top first mid old m → ((s : State) → mid s → Ends (Some Sink) s last) → Asks (Err Sink) top first last old new
  finish_sink end a more =
      finish_err Sink end a (inr (end, ends_same end a.export a.front a.exchanges a.out old m new same a.came)) (λ u lines. tt) more

  pub finish_device : Asks (Ok Whole) top first mid old m → ((s : State) → mid s → Ends (Some Device) s last) → Asks (Err Device) top first last old new
  finish_device a more = finish_err Device Whole a (inr (ends_same Whole a.export a.front a.exchanges a.out old m new same a.came)) (λ u lines. tt) more

  pub finish_memory : Asks (Ok Whole) top first mid old m → ((s : State) → mid s → Ends (Some Memory) s last) → Asks (Err Memory) top first last old new
  finish_memory a more = finish_err Memory Whole a (record { exchanges = inl a.came.1.exchanges; written = same ∙ a.came.1.written }) (λ u lines. tt) more

  pub finished : (r : Result ExportEnd Fault) (end : ExportEnd) → Asks (Ok end) top first mid old m → Finishes r end mid last → Asks r top first last old new
  finished (Ok e) end a h = finish_ok e (subst (λ k. Asks (Ok k) top first mid old m) (sym h.0) a) h.1
  finished (Err e) end a h = by h.0 h.1
    where
      whole : end ≡ Whole → Asks (Ok Whole) top first mid old m
      whole is = subst (λ k. Asks (Ok k) top first mid old m) is a

      by : (e ≡ Sink) ⊎ ((end ≡ Whole) × ((e ≡ Device) ⊎ (e ≡ Memory))) → ((s : State) → mid s → Ends (Some e) s last) → Asks (Err e) top first last old new
      by (inl is) more = subst (λ k. Asks (Err k) top first last old new) (sym is) (finish_sink end a (subst (λ k. (s : State) → mid s → Ends (Some k) s last) is more))
      by (inr (at, inl is)) more =
          subst (λ k. Asks (Err k) top first last old new) (sym is) (finish_device (whole at) (subst (λ k. (s : State) → mid s → Ends (Some k) s last) is more))
      by (inr (at, inr is)) more =
          subst (λ k. Asks (Err k) top first last old new) (sym is) (finish_memory (whole at) (subst (λ k. (s : State) → mid s → Ends (Some k) s last) is more))

-- a fault makes nothing durable
pub closed_fault : (e : Fault) (now : State → Type 0) (s : State) → now s → ClosedAt (Some e) now true s
closed_fault e now s h = record { calls = s.calls; later = omega arith; reached = h }

-- nor does an end that leaves what waits
pub closed_left : (now : State → Type 0) (stopped : Bool) → stopped ≡ true → (s : State) → now s → ClosedAt None now stopped s
closed_left now stopped is s h = subst (λ b. ClosedAt None now b s) (sym is) (record { calls = s.calls; later = omega arith; reached = h })

pub ends_as : (end : Option Fault) (s : State) (at to : State → Type 0) → ((t : State) → at t → to t) → Ends end s at → Ends end s to
ends_as None s at to f h = f s h
ends_as (Some Device) s at to f h = leaves_as s at to f h
ends_as (Some (Damaged block)) s at to f h = absurd h
ends_as (Some Source) s at to f h = f s h
ends_as (Some Memory) s at to f h = leaves_as s at to f h
ends_as (Some TooLong) s at to f h = f s h
ends_as (Some (Worn which)) s at to f h = leaves_as s at to f h
ends_as (Some Sink) s at to f h = f s h

pub faulted : (e : Fault) (top : Path) (first now : State → Type 0) (old new : Known) → Asks (Err e) top first now old new → Asks (Err e) top first (ClosedAt (Some e) now true) old new
faulted e top first now old new a = record {
  exchanges = a.exchanges;
  answered = a.answered;
  front = a.front;
  export = a.export;
  out = a.out;
  interview = a.interview;
  came = a.came;
  runs = λ t at. transcript_as t a.exchanges (EndsAsking (Some e) a.export a.front a.exchanges now) (EndsAsking (Some e) a.export a.front a.exchanges (ClosedAt (Some e) now true)) (a.runs t at)
      (λ u h. record { told = h.told; reached = ends_as (Some e) u now (ClosedAt (Some e) now true) (closed_fault e now) h.reached });
}

-- the last sync failed
pub unclosed : (e : Fault) (first now : State → Type 0) → (e ≡ Device) ⊎ (e ≡ Memory) → ((s : State) → first s → Later (with_view s s.view) now s)
    → (s : State) → first s → Ends (Some e) s (ClosedAt (Some e) now true)
unclosed e first now (inl is) stays s h =
    subst (λ k. Ends (Some k) s (ClosedAt (Some k) now true)) (sym is) (leaves_as s now (ClosedAt (Some Device) now true) (closed_fault Device now) (leaves_later s now (stays s h)))
unclosed e first now (inr is) stays s h =
    subst (λ k. Ends (Some k) s (ClosedAt (Some k) now true)) (sym is) (leaves_as s now (ClosedAt (Some Memory) now true) (closed_fault Memory now) (leaves_later s now (stays s h)))

pub whole_is : (e : ExportEnd) → is_whole e ≡ true → e ≡ Whole
whole_is Whole h = refl
whole_is Absent h = cc
whole_is LongPath h = cc
whole_is Full h = cc

-- all was made durable
pub closed_all : (now : State → Type 0) (stopped : Bool) → stopped ≡ false → (s : State) → Later (synced_state s) now s → ClosedAt None now stopped s
closed_all now stopped is s h = subst (λ b. ClosedAt None now b s) (sym is) h

pub not_true : (b : Bool) → not b ≡ true → b ≡ false
not_true true h = cc
not_true false h = refl

pub not_false : (b : Bool) → not b ≡ false → b ≡ true
not_false true h = refl
not_false false h = cc

-- a fault of the device or of memory, where the sink hadn't failed before
pub still_caused : {D T U : Type 0} (g : Ghosts D) (d e : D) (sink later : ℕ) (f : Fault) → later ≡ sink → IsCaused {T = T} (counts_of g d later) (counts_of g e later) (g.last_failed e) (Err f)
    → IsCaused {T = U} (counts_of g d sink) (counts_of g e later) (g.last_failed e) (Err f)
still_caused {D} {T} {U} g d e sink later f same h =
    subst (λ k. IsCaused {T = U} (counts_of g d k) (counts_of g e later) (g.last_failed e) (Err f)) same (fault_as {T = T} {U = U} (counts_of g d later) (counts_of g e later) (g.last_failed e) f h)

-- what holds of an Ok result, by which it is
pub if_ok_of : {T E : Type 0} (r : Result T E) (P : T → Type 0) → ((x : T) → r ≡ Ok x → P x) → IfOk r P
if_ok_of (Ok x) P f = f x refl
if_ok_of (Err e) P f = tt
