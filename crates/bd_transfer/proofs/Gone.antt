-- Commands of a stream put together.
use Rattle.std.proofs.Common.{◌≡◌, ◌↔◌, ◌<◌, ℕ, suc, List, [], ◌∷◌, ◌++◌, length, map, refl, sym, ap, subst, ◌∙◌, append_assoc, arith, inl, inr}
use Rattle.std.specs.Prelude.{IsSome, slice_index}
use Rattle.std.specs.List.{AllByRecursion}
use Rattle.std.specs.Option.{option_to_list}
use Rattle.std.specs.declared.option.Option.{Option}
use Rattle.std.specs.declared.option.Option.TheVariants.{None, Some}
use Rattle.std.specs.declared.result.Result.TheVariants.{Ok, Err}
use Rattle.std.proofs.lemmas.List.{append-nil, map-append}
use Rattle.bd_command.specs.declared.Command.{Command}
use Rattle.bd_node.proofs.Lookup.{each_both}
use Rattle.bd_sessions.specs.Spoken.{Spoken}
use Rattle.bd_sessions.specs.declared.replies.TurnReply.TheVariants.{Line as Said}
use Rattle.bd_shell.specs.declared.fault.Fault.{Fault}
use Rattle.bd_shell.specs.declared.fault.Fault.TheVariants.{Device, Damaged, Source, Memory, TooLong, Worn, Sink}
use Rattle.bd_shell.specs.Transcript.{State, Exchange, IsAnswered, HasTranscript, commanded, executed}
use Rattle.bd_shell.specs.Shell.{IsLineFault, TurnFails}
use Rattle.bd_shell.proofs.Left.{leaves_nothing, leaves_worn}
use Rattle.bd_shell.proofs.Transcripts.{executed-append, transcript_as, transcript_more, transcript_none, transcript_one}
use Rattle.bd_stream.specs.Importing.{State as Stream, fed}
use Rattle.bd_transfer.specs.declared.importing.Fed.TheVariants.{Ended}
use Rattle.bd_transfer.specs.declared.importing.ImportEnd.{ImportEnd}
use Rattle.bd_transfer.specs.Giving.{AllPassed, EndsGiving, FeedsPiece, GivesAll, GivesOne, GivesReply, IsStopAt, Passed, fed_by, got}

-- commands of a list were executed, and these are left
pub record GoneTo (cs left : List Command) (first now : State → Type 0) : Type 0 where
  pub done : List Command
  pub split : cs ≡ done ++ left
  pub exchanges : List Exchange
  pub answered : AllByRecursion IsAnswered exchanges
  pub lines_are : executed exchanges ≡ map commanded done
  pub passed : AllPassed exchanges
  pub runs : (s : State) → first s → HasTranscript s exchanges now

pub gone_none : (cs : List Command) (first : State → Type 0) → GoneTo cs cs first first
gone_none cs first = record {
  done = [];
  split = refl;
  exchanges = [];
  answered = tt;
  lines_are = refl;
  passed = tt;
  runs = λ s h. transcript_none s first h;
}

-- the executed lines with one more
lines_more : (xs : List Exchange) (x : Exchange) (c : Command) (done : List Command) → executed xs ≡ map commanded done → x.line ≡ commanded c
    → executed (xs ++ x ∷ []) ≡ map commanded (done ++ c ∷ [])
lines_more xs x c done are is =
    executed-append xs (x ∷ []) ∙ ap (λ l. l ++ x.line ∷ []) are ∙ ap (λ l. map commanded done ++ l ∷ []) is ∙ sym (map-append commanded done (c ∷ []))

-- those that are left follow
lines_left : (cs left done : List Command) (c : Command) (ls : List Spoken) → cs ≡ done ++ c ∷ left → ls ≡ map commanded done → map commanded cs ≡ ls ++ commanded c ∷ map commanded left
lines_left cs left done c ls split are = ap (map commanded) split ∙ map-append commanded done (c ∷ left) ∙ ap (λ l. l ++ commanded c ∷ map commanded left) (sym are)

pub gone_more : (cs left : List Command) (c : Command) (first mid last : State → Type 0) → GoneTo cs (c ∷ left) first mid → GivesReply None c mid last → GoneTo cs left first last
gone_more cs left c first mid last g x =
    let line = got c x.said in
    record {
      done = g.done ++ c ∷ [];
      split = g.split ∙ sym (append_assoc g.done (c ∷ []) left);
      exchanges = g.exchanges ++ line ∷ [];
      answered = each_both IsAnswered g.exchanges (line ∷ []) g.answered (x.answered, tt);
      lines_are = lines_more g.exchanges line c g.done g.lines_are refl;
      passed = each_both Passed g.exchanges (line ∷ []) g.passed (record { said = x.said; said_is = refl; goes_on = sym x.ends }, tt);
      runs = λ s h. transcript_more s g.exchanges (line ∷ []) mid last (g.runs s h) (λ u at. transcript_one u (commanded c) (Said x.said) last (x.runs u at));
    }

pub gone_end : (cs : List Command) (first now : State → Type 0) → GoneTo cs [] first now → GivesAll (Ok None) cs first now
gone_end cs first now g = record {
  exchanges = g.exchanges;
  answered = g.answered;
  gone = (g.lines_are ∙ ap (map commanded) (sym (g.split ∙ append-nil g.done)), g.passed);
  runs = λ s h. transcript_as s g.exchanges now (EndsGiving None (map commanded cs) g.exchanges now) (g.runs s h) (λ u at. record { told = tt; reached = at });
}

pub gone_last : (e : ImportEnd) (cs left : List Command) (c : Command) (first mid last : State → Type 0) → GoneTo cs (c ∷ left) first mid → GivesReply (Some e) c mid last
    → GivesAll (Ok (Some e)) cs first last
gone_last e cs left c first mid last g x =
    let line = got c x.said in
    let xs = g.exchanges ++ line ∷ [] in
    record {
      exchanges = xs;
      answered = each_both IsAnswered g.exchanges (line ∷ []) g.answered (x.answered, tt);
      gone = (
        (
          map commanded left,
          lines_left cs left g.done c (executed g.exchanges) g.split g.lines_are ∙ sym (append_assoc (executed g.exchanges) (commanded c ∷ []) (map commanded left))
              ∙ ap (λ l. l ++ map commanded left) (sym (executed-append g.exchanges (line ∷ []))),
        ),
        record { front = g.exchanges; last = line; exchanges = refl; passed = g.passed; said = x.said; said_is = refl; ends = sym x.ends },
      );
      runs = λ s h. transcript_as s xs last (EndsGiving None (map commanded cs) xs last)
          (transcript_more s g.exchanges (line ∷ []) mid last (g.runs s h) (λ u at. transcript_one u (commanded c) (Said x.said) last (x.runs u at))) (λ u at. record { told = tt; reached = at });
    }

-- what a fault before a reply leaves
fails_giving : (e : Fault) (c : Command) (rest lines : List Spoken) (xs : List Exchange) (last : State → Type 0) (u : State) → lines ≡ executed xs ++ commanded c ∷ rest → IsLineFault e
    → TurnFails e u (commanded c) last → EndsGiving (Some e) lines xs last u
fails_giving Device c rest lines xs last u are kind h = record { told = tt; reached = (commanded c, h) }
fails_giving (Damaged block) c rest lines xs last u are kind h = absurd h
fails_giving Source c rest lines xs last u are kind h = absurd kind
fails_giving Memory c rest lines xs last u are kind h = record { told = tt; reached = (commanded c, h) }
fails_giving TooLong c rest lines xs last u are kind h = absurd kind
fails_giving (Worn which) c rest lines xs last u are kind h = record {
  told = record { next = commanded c; has = record { rest = rest; lines_are = are }; left = h.left; worn = h.worn };
  reached = leaves_worn which u (commanded c) last h;
}
fails_giving Sink c rest lines xs last u are kind h = absurd kind

pub gone_fails : (e : Fault) (cs left : List Command) (c : Command) (first mid last : State → Type 0) → GoneTo cs (c ∷ left) first mid → GivesOne (Err e) c mid last
    → GivesAll (Err e) cs first last
gone_fails e cs left c first mid last g x =
    let are = lines_left cs left g.done c (executed g.exchanges) g.split g.lines_are in
    record {
      exchanges = g.exchanges;
      answered = g.answered;
      gone = (x.0, (commanded c ∷ map commanded left, are), g.passed);
      runs = λ s h. transcript_as s g.exchanges mid (EndsGiving (Some e) (map commanded cs) g.exchanges last) (g.runs s h)
          (λ u at. fails_giving e c (map commanded left) (map commanded cs) g.exchanges last u are x.0 (x.1 u at));
    }

-- the first of those that are left
pub popped : (o : Option Command) (c : Command) (old new : List Command) → old ≡ option_to_list o ++ new → o ≡ Some c → old ≡ c ∷ new
popped o c old new is some = is ∙ ap (λ x. option_to_list x ++ new) some

pub shorter : (c : Command) (old new : List Command) → old ≡ c ∷ new → length new < length old
shorter c old new is = subst (λ l. length new < length l) (sym is) (omega arith)

pub gone_popped : (cs : List Command) (first mid : State → Type 0) (o : Option Command) (c : Command) (old new : List Command) → GoneTo cs old first mid → old ≡ option_to_list o ++ new → o ≡ Some c
    → GoneTo cs (c ∷ new) first mid
gone_popped cs first mid o c old new g is some = subst (λ l. GoneTo cs l first mid) (popped o c old new is some) g

-- none is left where none is popped
pub empty_of : (o : Option Command) (items : List Command) (n : ℕ) → n ≡ length items → (IsSome o ↔ (0 < n)) → ((c : Command) → o ≡ Some c → ⊥) → items ≡ []
empty_of o [] n size some not = refl
empty_of o (x ∷ xs) n size some not = absurd (by o (some.1 (omega (arith, size))) not)
  where
    by : (p : Option Command) → IsSome p → ((c : Command) → p ≡ Some c → ⊥) → ⊥
    by None h never = cc
    by (Some c) h never = never c refl

-- ---- a piece

pub are_bytes : (xs : List ℕ) → ((i : ℕ) → slice_index xs i < 256) → AllByRecursion (λ b. b < 256) xs
are_bytes [] h = tt
are_bytes (x ∷ xs) h = (h 0, are_bytes xs (λ i. h (suc i)))

-- it wasn't fed, for want of memory
pub feeds_none : (s now : Stream) (piece : List ℕ) (first : State → Type 0) → FeedsPiece (Err Memory) s now piece first first
feeds_none s now piece first = record {
  exchanges = [];
  answered = tt;
  went = (tt, (map commanded (fed s piece).1, refl), tt);
  runs = λ u h. transcript_as u [] first (EndsGiving (Some Memory) (map commanded (fed s piece).1) [] first) (transcript_none u first h) (λ v at. record { told = tt; reached = leaves_nothing v first at });
}

-- all its commands were executed, and it ends the import or doesn't
pub feeds_all : (end : Option ImportEnd) (count : ℕ) (s now : Stream) (piece : List ℕ) (cs : List Command) (first last : State → Type 0) → now ≡ (fed s piece).0 → cs ≡ (fed s piece).1
    → IsStopAt end now.phase → count ≡ length cs → GivesAll (Ok None) cs first last → FeedsPiece (Ok (fed_by end count)) s now piece first last
feeds_all None count s now piece cs first last state are stop size g =
    let h = subst (λ l. GivesAll (Ok None) l first last) are g in
    record { exchanges = h.exchanges; answered = h.answered; went = (state, stop, h.gone, size ∙ ap length are); runs = h.runs }
feeds_all (Some e) count s now piece cs first last state are stop size g =
    let h = subst (λ l. GivesAll (Ok None) l first last) are g in
    record { exchanges = h.exchanges; answered = h.answered; went = (state, inl (stop, h.gone)); runs = h.runs }

-- one of them ends it
pub feeds_stop : (e : ImportEnd) (s now : Stream) (piece : List ℕ) (cs : List Command) (first last : State → Type 0) → now ≡ (fed s piece).0 → cs ≡ (fed s piece).1
    → GivesAll (Ok (Some e)) cs first last → FeedsPiece (Ok (Ended e)) s now piece first last
feeds_stop e s now piece cs first last state are g =
    let h = subst (λ l. GivesAll (Ok (Some e)) l first last) are g in
    record { exchanges = h.exchanges; answered = h.answered; went = (state, inr h.gone); runs = h.runs }

-- a fault came
pub feeds_err : (e : Fault) (s now : Stream) (piece : List ℕ) (cs : List Command) (first last : State → Type 0) → cs ≡ (fed s piece).1 → GivesAll (Err e) cs first last
    → FeedsPiece (Err e) s now piece first last
feeds_err e s now piece cs first last are g =
    let h = subst (λ l. GivesAll (Err e) l first last) are g in
    record { exchanges = h.exchanges; answered = h.answered; went = h.gone; runs = h.runs }

pub all_made : (all made cs : List Command) → made ≡ [] → all ≡ made ++ cs → all ≡ cs
all_made all made cs none is = is ∙ ap (λ l. l ++ cs) none
