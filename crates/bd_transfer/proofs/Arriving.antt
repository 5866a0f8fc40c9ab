-- Pieces of a stream put together.
use Rattle.std.proofs.Common.{◌≡◌, ◌⊎◌, ℕ, ◌+◌, ◌-◌, ◌^◌, ◌<◌, ◌≤◌, Bool, true, false, List, [], ◌∷◌, ◌++◌, length, map, take, refl, sym, ap, subst, ◌∙◌, append_assoc, arith, inl, inr, length-append, length-take-le}
use Rattle.std.specs.Prelude.{min}
use Rattle.std.specs.Option.{option_map}
use Rattle.std.specs.List.{AllByRecursion}
use Rattle.std.specs.Io.KnownBytes.{prepend_known, IsAtEnd}
use Rattle.std.specs.declared.option.Option.{Option}
use Rattle.std.specs.declared.option.Option.TheVariants.{None, Some}
use Rattle.std.specs.declared.result.Result.{Result}
use Rattle.std.specs.declared.result.Result.TheVariants.{Ok, Err}
use Rattle.std.proofs.Math.Seq.{take-append_seam}
use Rattle.std.proofs.lemmas.List.{append-nil, length-map, map-append}
use Rattle.bd_limits.specs.Limits.{piece_limit}
use Rattle.bd_io.specs.Takes.{Takes, takes_after}
use Rattle.bd_command.specs.declared.reply.Reply.TheVariants.{Done, Bytes, Dir, File, Names, Refused as No}
use Rattle.bd_script.specs.declared.replies.LineReply.{LineReply}
use Rattle.bd_script.specs.declared.replies.LineReply.TheVariants as reply
use Rattle.bd_node.proofs.Lookup.{each_both}
use Rattle.bd_sessions.specs.Spoken.{Spoken}
use Rattle.bd_stream.specs.Feeding.{fault_in, has_ended}
use Rattle.bd_stream.specs.Importing.{Path, State as Stream, Turn, fed, start}
use Rattle.bd_stream.specs.Streams.{stream_limit}
use Rattle.bd_stream.proofs.FedLemmas.{fed-append}
use Rattle.bd_shell.specs.declared.fault.Fault.{Fault}
use Rattle.bd_shell.specs.declared.fault.Fault.TheVariants.{Device, Damaged, Source, Memory, TooLong, Worn, Sink}
use Rattle.bd_shell.specs.Transcript.{State, Exchange, IsAnswered, HasTranscript, IsFront, commanded, executed}
use Rattle.bd_shell.specs.Fault.{faults}
use Rattle.bd_shell.specs.Session.{ClosedAt, Ends, Tells, end_of}
use Rattle.bd_shell.specs.Shell.{IsLineFault}
use Rattle.bd_shell.specs.Taken.{Took}
use Rattle.bd_shell.proofs.Left.{leaves_nothing}
use Rattle.bd_shell.proofs.Scripts.{IdleAlike, idle_alike, idle_more, prepend_known-append, prepend_known-nil, took, took_none}
use Rattle.bd_shell.proofs.Transcripts.{executed-append, transcript_as, transcript_more, transcript_none}
use Rattle.bd_transfer.specs.declared.importing.Fed.TheVariants.{More, Ended}
use Rattle.bd_transfer.specs.declared.importing.ImportEnd.{ImportEnd}
use Rattle.bd_transfer.specs.declared.importing.ImportEnd.TheVariants.{Whole, BadStream, LongPath, Refused, Full}
use Rattle.bd_transfer.specs.Giving.{AllGone, Arrived, Concludes, EndsGiving, FeedsPiece, HaveGone, Imports, IsStopAt, LastGone, IsGiven, LastGot, Passed, SomeGone, StopsSo, counted, end_by, given, given_by, is_made}
use Rattle.bd_transfer.proofs.Asked.{closed_fault, ends_as}
use Rattle.bd_transfer.specs.declared.taking.Given.{Given}
use Rattle.bd_transfer.specs.declared.taking.Given.TheVariants.{Piece, End, Beyond}

-- what was fed of a stream, whose commands were executed and accepted
pub record FedTo (target : Path) (first now : State → Type 0) (taken count : ℕ) (s : Stream) (script rest : Option (List ℕ)) (before at : Option Takes) : Type 0 where
  pub bytes : List ℕ
  pub size : length bytes ≡ taken
  pub few : taken ≤ stream_limit
  pub state : s ≡ (fed (start target) bytes).0
  pub exchanges : List Exchange
  pub answered : AllByRecursion IsAnswered exchanges
  pub gone : AllGone target bytes exchanges
  pub count_is : count ≡ counted exchanges
  pub taken_is : script ≡ prepend_known bytes rest
  pub idle : IdleAlike before at
  pub front : List ℕ
  pub final : List ℕ
  pub split : bytes ≡ front ++ final
  pub took : Took front final before at
  pub runs : (u : State) → first u → HasTranscript u exchanges now

pub fed_first : (target : Path) (first : State → Type 0) (s : Stream) (script : Option (List ℕ)) (t : Option Takes) → s ≡ start target → FedTo target first first 0 0 s script script t t
unfolding fed
fed_first target first s script t is = record {
  bytes = [];
  size = refl;
  few = omega arith;
  state = is;
  exchanges = [];
  answered = tt;
  gone = record { lines_are = refl; passed = tt };
  count_is = omega arith;
  taken_is = sym (prepend_known-nil script);
  idle = idle_alike t;
  front = [];
  final = [];
  split = refl;
  took = took_none t;
  runs = λ u h. transcript_none u first h;
}

-- a piece that a source gave
pub record Got (taken : ℕ) (piece : List ℕ) (old new : Option (List ℕ)) (before after : Option Takes) : Type 0 where
  pub fits : taken + length piece ≤ stream_limit
  pub some : 0 < length piece
  pub short : length piece ≤ piece_limit
  pub got : old ≡ prepend_known piece new
  pub told : after ≡ option_map (takes_after piece) before

-- what a piece gives after others
given_more : (target : Path) (bytes piece : List ℕ) (s : Stream) → s ≡ (fed (start target) bytes).0 → given target (bytes ++ piece) ≡ given target bytes ++ map commanded (fed s piece).1
given_more target bytes piece s is =
    ap (map commanded) (ap (λ (t : Turn). t.1) (fed-append (start target) bytes piece)) ∙ map-append commanded (fed (start target) bytes).1 (fed (fed (start target) bytes).0 piece).1
    ∙ ap (λ k. given target bytes ++ map commanded (fed k piece).1) (sym is)

state_more : (target : Path) (bytes piece : List ℕ) (s now : Stream) → s ≡ (fed (start target) bytes).0 → now ≡ (fed s piece).0 → now ≡ (fed (start target) (bytes ++ piece)).0
state_more target bytes piece s now is after = after ∙ ap (λ k. (fed k piece).0) is ∙ sym (ap (λ (t : Turn). t.0) (fed-append (start target) bytes piece))

-- all of it was executed
gone_all : (target : Path) (bytes piece : List ℕ) (s : Stream) (xs ys : List Exchange) → s ≡ (fed (start target) bytes).0 → AllGone target bytes xs → executed ys ≡ map commanded (fed s piece).1
    → AllByRecursion Passed ys → AllGone target (bytes ++ piece) (xs ++ ys)
gone_all target bytes piece s xs ys is g are passed = record {
  lines_are = executed-append xs ys ∙ ap (λ l. l ++ executed ys) g.lines_are ∙ ap (λ l. given target bytes ++ l) are ∙ sym (given_more target bytes piece s is);
  passed = each_both Passed xs ys g.passed passed;
}

-- a part of it was
gone_some : (target : Path) (bytes piece : List ℕ) (s : Stream) (xs ys : List Exchange) → s ≡ (fed (start target) bytes).0 → AllGone target bytes xs → IsFront (executed ys) (map commanded (fed s piece).1)
    → IsFront (executed (xs ++ ys)) (given target (bytes ++ piece))
gone_some target bytes piece s xs ys is g front = (
  front.0,
  given_more target bytes piece s is ∙ ap (λ l. l ++ map commanded (fed s piece).1) (sym g.lines_are) ∙ ap (λ l. executed xs ++ l) front.1 ∙ sym (append_assoc (executed xs) (executed ys) front.0)
      ∙ ap (λ l. l ++ front.0) (sym (executed-append xs ys)),
)

pub fed_more : (target : Path) (first mid last : State → Type 0) (taken count n size count2 : ℕ) (piece : List ℕ) (s now : Stream) (script left rest : Option (List ℕ)) (before at after : Option Takes)
    → FedTo target first mid taken count s script left before at → Got taken piece left rest at after → FeedsPiece (Ok (More n)) s now piece mid last → size ≡ length piece
    → count2 ≡ min (count + n) (2 ^ 64 - 1) → FedTo target first last (taken + size) count2 now script rest before after
fed_more target first mid last taken count n size count2 piece s now script left rest before at after f got x long sum =
    let ys = x.exchanges in
    let same : length ys ≡ length (fed s piece).1 = sym (length-map ys (λ (e : Exchange). e.line)) ∙ ap length x.went.2.0 ∙ length-map (fed s piece).1 commanded in
    record {
      bytes = f.bytes ++ piece;
      size = omega (arith, length-append f.bytes piece, f.size, long);
      few = omega (arith, got.fits, long);
      state = state_more target f.bytes piece s now f.state x.went.0;
      exchanges = f.exchanges ++ ys;
      answered = each_both IsAnswered f.exchanges ys f.answered x.answered;
      gone = gone_all target f.bytes piece s f.exchanges ys f.state f.gone x.went.2.0 x.went.2.1;
      count_is = omega (arith, sum, f.count_is, x.went.3, same, length-append f.exchanges ys);
      taken_is = f.taken_is ∙ ap (prepend_known f.bytes) got.got ∙ prepend_known-append f.bytes piece rest;
      idle = subst (IdleAlike before) (sym got.told) (idle_more before at piece f.idle got.some);
      front = f.bytes;
      final = piece;
      split = refl;
      took = took f.bytes piece before at after got.short f.idle got.told;
      runs = λ u h. transcript_more u f.exchanges ys mid last (f.runs u h)
          (λ v here. transcript_as v ys (EndsGiving None (map commanded (fed s piece).1) ys last) last (x.runs v here) (λ w e. e.reached));
    }

-- ---- a piece that ends it

stop_of : ImportEnd → Type 0
stop_of (Whole count) = ⊥
stop_of BadStream = ⊥
stop_of LongPath = ⊥
stop_of (Refused r) = Unit {0}
stop_of (Full free need) = Unit {0}

same_end : (a b : ImportEnd) → Some a ≡ Some b → a ≡ b
same_end a b is = cc

stops_by : (said : LineReply) (e : ImportEnd) → end_by said ≡ Some e → stop_of e
unfolding stop_of
stops_by (reply.Command Done) e is = cc
stops_by (reply.Command (Bytes bytes)) e is = cc
stops_by (reply.Command (Dir mode)) e is = cc
stops_by (reply.Command (File len mode)) e is = cc
stops_by (reply.Command (Names listing)) e is = cc
stops_by (reply.Command (No r)) e is = subst stop_of (same_end (Refused r) e is) tt
stops_by (reply.Unread refusal) e is = cc
stops_by (reply.Walk visits height) e is = cc
stops_by reply.Done e is = cc
stops_by (reply.Free free slots) e is = cc
stops_by (reply.Full free need) e is = subst stop_of (same_end (Full free need) e is) tt
stops_by reply.Stopped e is = cc

-- where the last command ends it
last_arrived : (e : ImportEnd) (target : Path) (bytes : List ℕ) (rest : Option (List ℕ)) (xs : List Exchange) → LastGone e target bytes xs → Arrived (Ok e) target bytes bytes rest xs
unfolding stop_of
last_arrived (Whole count) target bytes rest xs h = absurd (stops_by h.last.said (Whole count) h.last.ends)
last_arrived BadStream target bytes rest xs h = absurd (stops_by h.last.said BadStream h.last.ends)
last_arrived LongPath target bytes rest xs h = absurd (stops_by h.last.said LongPath h.last.ends)
last_arrived (Refused r) target bytes rest xs h = (h, refl)
last_arrived (Full free need) target bytes rest xs h = (h, refl)

-- where the bytes do
stop_arrived : (e : ImportEnd) (target : Path) (bytes : List ℕ) (rest : Option (List ℕ)) (xs : List Exchange) (now : Stream) → now ≡ (fed (start target) bytes).0 → AllGone target bytes xs
    → IsStopAt (Some e) now.phase → Arrived (Ok e) target bytes bytes rest xs
stop_arrived (Whole count) target bytes rest xs now is g stop = absurd stop
stop_arrived BadStream target bytes rest xs now is g stop = (g, inl (ap (λ (k : Stream). fault_in k.phase) (sym is) ∙ stop), refl)
stop_arrived LongPath target bytes rest xs now is g stop = (g, ap (λ (k : Stream). fault_in k.phase) (sym is) ∙ stop, refl)
stop_arrived (Refused r) target bytes rest xs now is g stop = absurd stop
stop_arrived (Full free need) target bytes rest xs now is g stop = absurd stop

got_last : (e : ImportEnd) (xs ys : List Exchange) → AllByRecursion Passed xs → LastGot e ys → LastGot e (xs ++ ys)
got_last e xs ys passed l = record {
  front = xs ++ l.front;
  last = l.last;
  exchanges = ap (λ k. xs ++ k) l.exchanges ∙ sym (append_assoc xs l.front (l.last ∷ []));
  passed = each_both Passed xs l.front passed l.passed;
  said = l.said;
  said_is = l.said_is;
  ends = l.ends;
}

-- how one import came to a fault's end after others: what is told of its next line
tells_more : (e : Fault) (u : State) (ls done lines all : List Spoken) → all ≡ ls ++ lines → Tells (Some e) u done lines → Tells (Some e) u (ls ++ done) all
tells_more Device u ls done lines all is h = tt
tells_more (Damaged block) u ls done lines all is h = h
tells_more Source u ls done lines all is h = tt
tells_more Memory u ls done lines all is h = tt
tells_more TooLong u ls done lines all is h = tt
tells_more (Worn which) u ls done lines all is h = record {
  next = h.next;
  has = record { rest = h.has.rest; lines_are = is ∙ ap (λ l. ls ++ l) h.has.lines_are ∙ sym (append_assoc ls done (h.next ∷ h.has.rest)) };
  left = h.left;
  worn = h.worn;
}
tells_more Sink u ls done lines all is h = tt

module _ (target : Path) (first mid last : State → Type 0) (taken count : ℕ) (piece : List ℕ) (s now : Stream) (script left rest : Option (List ℕ)) (before at after : Option Takes)
    (f : FedTo target first mid taken count s script left before at) (got : Got taken piece left rest at after) where
  pub ends_piece : (e : ImportEnd) → FeedsPiece (Ok (Ended e)) s now piece mid last → Imports (Ok e) target first last script rest before after
  ends_piece e x =
      let ys = x.exchanges in
      let all = f.bytes ++ piece in
      record {
        exchanges = f.exchanges ++ ys;
        answered = each_both IsAnswered f.exchanges ys f.answered x.answered;
        bytes = all;
        front = f.bytes;
        final = piece;
        taken = all;
        taken_is = refl;
        few = omega (arith, length-append f.bytes piece, f.size, got.fits);
        script_is = f.taken_is ∙ ap (prepend_known f.bytes) got.got ∙ prepend_known-append f.bytes piece rest;
        took = took f.bytes piece before at after got.short f.idle got.told;
        arrived = by x.went.1;
        runs = λ u h. transcript_as u (f.exchanges ++ ys) last (EndsGiving None (given target all) (f.exchanges ++ ys) last)
            (transcript_more u f.exchanges ys mid last (f.runs u h) (λ v here. transcript_as v ys (EndsGiving None (map commanded (fed s piece).1) ys last) last (x.runs v here) (λ w k. k.reached)))
            (λ v here. record { told = tt; reached = here });
      }
    where
      by : StopsSo e (fed s piece).1 now x.exchanges → Arrived (Ok e) target (f.bytes ++ piece) (f.bytes ++ piece) rest (f.exchanges ++ x.exchanges)
      by (inl h) =
          stop_arrived e target (f.bytes ++ piece) rest (f.exchanges ++ x.exchanges) now (state_more target f.bytes piece s now f.state x.went.0)
          (gone_all target f.bytes piece s f.exchanges x.exchanges f.state f.gone h.1.0 h.1.1) h.0
      by (inr h) =
          last_arrived e target (f.bytes ++ piece) rest (f.exchanges ++ x.exchanges)
          (record { lines_are = gone_some target f.bytes piece s f.exchanges x.exchanges f.state f.gone h.0; last = got_last e f.exchanges x.exchanges f.gone.passed h.1 })

  err_arrived : (e : Fault) (ys : List Exchange) → HaveGone (Err e) (fed s piece).1 ys → Arrived (Err e) target (f.bytes ++ piece) (f.bytes ++ piece) rest (f.exchanges ++ ys)
  err_arrived e ys h = by e h.0
    where
      some : SomeGone target (f.bytes ++ piece) (f.exchanges ++ ys)
      some = record { lines_are = gone_some target f.bytes piece s f.exchanges ys f.state f.gone h.1; passed = each_both Passed f.exchanges ys f.gone.passed h.2 }

      by : (k : Fault) → IsLineFault k → Arrived (Err k) target (f.bytes ++ piece) (f.bytes ++ piece) rest (f.exchanges ++ ys)
      by Device kind = (some, refl)
      by (Damaged block) kind = (some, refl)
      by Source kind = absurd kind
      by Memory kind = (some, ([], sym (append-nil (f.bytes ++ piece))))
      by TooLong kind = absurd kind
      by (Worn which) kind = (some, refl)
      by Sink kind = absurd kind

  pub err_piece : (e : Fault) → FeedsPiece (Err e) s now piece mid last → Imports (Err e) target first last script rest before after
  err_piece e x =
      let ys = x.exchanges in
      let all = f.bytes ++ piece in
      record {
        exchanges = f.exchanges ++ ys;
        answered = each_both IsAnswered f.exchanges ys f.answered x.answered;
        bytes = all;
        front = f.bytes;
        final = piece;
        taken = all;
        taken_is = refl;
        few = omega (arith, length-append f.bytes piece, f.size, got.fits);
        script_is = f.taken_is ∙ ap (prepend_known f.bytes) got.got ∙ prepend_known-append f.bytes piece rest;
        took = took f.bytes piece before at after got.short f.idle got.told;
        arrived = err_arrived e ys x.went;
        runs = λ u h. transcript_as u (f.exchanges ++ ys) (EndsGiving (Some e) (map commanded (fed s piece).1) ys last) (EndsGiving (Some e) (given target all) (f.exchanges ++ ys) last)
            (transcript_more u f.exchanges ys mid (EndsGiving (Some e) (map commanded (fed s piece).1) ys last) (f.runs u h) x.runs)
            (λ v k. record {
              told = subst (λ l. Tells (Some e) v l (given target all)) (sym (executed-append f.exchanges ys))
                  (tells_more e v (executed f.exchanges) (executed ys) (map commanded (fed s piece).1) (given target all)
                  (given_more target f.bytes piece s f.state ∙ ap (λ l. l ++ map commanded (fed s piece).1) (sym f.gone.lines_are)) k.told);
              reached = k.reached;
            });
      }

-- ---- other ends

module _ (target : Path) (first now : State → Type 0) (taken count : ℕ) (s : Stream) (script left : Option (List ℕ)) (before at : Option Takes)
    (f : FedTo target first now taken count s script left before at) where
  goes : (end : Option Fault) → ((u : State) → now u → EndsGiving end (given target f.bytes) f.exchanges now u) → (u : State) → first u
      → HasTranscript u f.exchanges (EndsGiving end (given target f.bytes) f.exchanges now)
  goes end more u h = transcript_as u f.exchanges now (EndsGiving end (given target f.bytes) f.exchanges now) (f.runs u h) more

  -- no more was taken
  pub ends_at : (r : Result ImportEnd Fault) (after : Option Takes) → after ≡ option_map (takes_after []) at → Arrived r target f.bytes f.bytes left f.exchanges
      → ((u : State) → now u → EndsGiving (end_of r) (given target f.bytes) f.exchanges now u) → Imports r target first now script left before after
  ends_at r after told arrived more = record {
    exchanges = f.exchanges;
    answered = f.answered;
    bytes = f.bytes;
    front = f.bytes;
    final = [];
    taken = f.bytes;
    taken_is = sym (append-nil f.bytes);
    few = omega (arith, f.size, f.few);
    script_is = f.taken_is;
    took = took f.bytes [] before at after (omega arith) f.idle told;
    arrived = arrived;
    runs = goes (end_of r) more;
  }

  pub ends_whole : (after : Option Takes) → after ≡ option_map (takes_after []) at → IsAtEnd left → has_ended s.phase ≡ true → Imports (Ok (Whole count)) target first now script left before after
  ends_whole after told end whole =
      ends_at (Ok (Whole count)) after told (f.gone, ap (λ (k : Stream). has_ended k.phase) (sym f.state) ∙ whole, f.count_is, refl, end) (λ u h. record { told = tt; reached = h })

  pub ends_early : (after : Option Takes) → after ≡ option_map (takes_after []) at → IsAtEnd left → has_ended s.phase ≡ false → Imports (Ok BadStream) target first now script left before after
  ends_early after told end early =
      ends_at (Ok BadStream) after told (f.gone, inr (ap (λ (k : Stream). has_ended k.phase) (sym f.state) ∙ early, end), refl) (λ u h. record { told = tt; reached = h })

  pub ends_either : (r : ImportEnd) (after : Option Takes) → after ≡ option_map (takes_after []) at → IsAtEnd left → (has_ended s.phase ≡ true → r ≡ Whole count)
      → (has_ended s.phase ≡ false → r ≡ BadStream) → Imports (Ok r) target first now script left before after
  ends_either r after told end whole early = by (has_ended s.phase) refl
    where
      by : (b : Bool) → has_ended s.phase ≡ b → Imports (Ok r) target first now script left before after
      by true e = subst (λ k. Imports (Ok k) target first now script left before after) (sym (whole e)) (ends_whole after told end e)
      by false e = subst (λ k. Imports (Ok k) target first now script left before after) (sym (early e)) (ends_early after told end e)

  pub ends_source : (after : Option Takes) → after ≡ option_map (takes_after []) at → Imports (Err Source) target first now script left before after
  ends_source after told = ends_at (Err Source) after told (f.gone, refl) (λ u h. record { told = tt; reached = h })

  pub ends_beyond : (b : List ℕ) (rest : Option (List ℕ)) (after : Option Takes) → taken ≡ stream_limit → left ≡ prepend_known b rest → length b ≡ 1 → after ≡ option_map (takes_after b) at
      → Imports (Err TooLong) target first now script rest before after
  ends_beyond b rest after full got one told = record {
    exchanges = f.exchanges;
    answered = f.answered;
    bytes = f.bytes;
    front = f.bytes;
    final = b;
    taken = f.bytes ++ b;
    taken_is = refl;
    few = omega (arith, f.size, f.few);
    script_is = f.taken_is ∙ ap (prepend_known f.bytes) got ∙ prepend_known-append f.bytes b rest;
    took = took f.bytes b before at after (omega (arith, one)) f.idle told;
    arrived = (f.gone, omega (arith, length-append f.bytes b, f.size, full, one), sym (ap (λ n. take n (f.bytes ++ b)) (sym (f.size ∙ full)) ∙ take-append_seam f.bytes b));
    runs = goes (Some TooLong) (λ u h. record { told = tt; reached = h });
  }

-- nothing was taken
pub taken_none : (target : Path) (first : State → Type 0) (script : Option (List ℕ)) (t : Option Takes) → Imports (Err Memory) target first first script script t t
unfolding fed
taken_none target first script t = record {
  exchanges = [];
  answered = tt;
  bytes = [];
  front = [];
  final = [];
  taken = [];
  taken_is = refl;
  few = omega arith;
  script_is = sym (prepend_known-nil script);
  took = took_none t;
  arrived = (record { lines_are = ([], refl); passed = tt }, ([], refl));
  runs = λ u h. transcript_as u [] first (EndsGiving (Some Memory) [] [] first) (transcript_none u first h) (λ v at. record { told = tt; reached = leaves_nothing v first at });
}

pub fed_left : (target : Path) (first now : State → Type 0) (taken count : ℕ) (s : Stream) (script left rest : Option (List ℕ)) (before at : Option Takes) → rest ≡ left
    → FedTo target first now taken count s script left before at → FedTo target first now taken count s script rest before at
fed_left target first now taken count s script left rest before at same f = subst (λ l. FedTo target first now taken count s script l before at) (sym same) f

-- ---- what a source gave

-- a piece within the limit
pub got_piece : (t : Given) (taken size : ℕ) (place : List ℕ) (old new : Option (List ℕ)) (before after : Option Takes) → t ≡ Piece size → length place ≡ 4096 → IsGiven t taken place old new
    → after ≡ option_map (takes_after (given_by (Ok t) place)) before → Got taken (take size place) old new before after × (size ≡ length (take size place))
got_piece t taken size place old new before after is array h told =
    let got : IsGiven (Piece size) taken place old new = subst (λ t. IsGiven t taken place old new) is h in
    let long : length (take size place) ≡ size = length-take-le size place (omega (arith, got.1, array)) in (
      record {
        fits = omega (arith, got.2, long);
        some = omega (arith, got.0, long);
        short = omega (arith, got.1, long);
        got = got.3;
        told = told ∙ ap (λ t. option_map (takes_after (given_by (Ok t) place)) before) is;
      },
      sym long,
    )

-- the byte past the limit
pub got_more : (t : Given) (taken : ℕ) (place : List ℕ) (old new : Option (List ℕ)) (before after : Option Takes) → t ≡ Beyond → length place ≡ 4096 → IsGiven t taken place old new
    → after ≡ option_map (takes_after (given_by (Ok t) place)) before
    → (taken ≡ stream_limit) × (old ≡ prepend_known (take 1 place) new) × (length (take 1 place) ≡ 1) × (after ≡ option_map (takes_after (take 1 place)) before)
got_more t taken place old new before after is array h told =
    let got : IsGiven Beyond taken place old new = subst (λ t. IsGiven t taken place old new) is h in
    (got.0, got.1, length-take-le 1 place (omega (arith, array)), told ∙ ap (λ t. option_map (takes_after (given_by (Ok t) place)) before) is)

-- the end
pub got_end : (t : Given) (taken : ℕ) (place : List ℕ) (old new : Option (List ℕ)) (before after : Option Takes) → t ≡ End → IsGiven t taken place old new
    → after ≡ option_map (takes_after (given_by (Ok t) place)) before → IsAtEnd new × (new ≡ old) × (after ≡ option_map (takes_after []) before)
got_end t taken place old new before after is h told =
    let got : IsGiven End taken place old new = subst (λ t. IsGiven t taken place old new) is h in
    (subst IsAtEnd (sym got.1) got.0, got.1, told ∙ ap (λ t. option_map (takes_after (given_by (Ok t) place)) before) is)

-- the counts of device and source, where neither has failed
pub both_same : (d e s t sink : ℕ) → e ≡ d → t ≡ s → faults e t sink ≡ faults d s sink
both_same d e s t sink p q = ap (λ n. faults n t sink) p ∙ ap (λ n. faults d n sink) q

-- ---- the end of an import

-- a fault makes nothing durable
pub broken : (e : Fault) (target : Path) (first now : State → Type 0) (script rest : Option (List ℕ)) (before after : Option Takes) → Imports (Err e) target first now script rest before after
    → Imports (Err e) target first (ClosedAt (Some e) now true) script rest before after
broken e target first now script rest before after a = record {
  exchanges = a.exchanges;
  answered = a.answered;
  bytes = a.bytes;
  front = a.front;
  final = a.final;
  taken = a.taken;
  taken_is = a.taken_is;
  few = a.few;
  script_is = a.script_is;
  took = a.took;
  arrived = a.arrived;
  runs = λ t at. transcript_as t a.exchanges (EndsGiving (Some e) (given target a.bytes) a.exchanges now) (EndsGiving (Some e) (given target a.bytes) a.exchanges (ClosedAt (Some e) now true)) (a.runs t at)
      (λ u h. record { told = h.told; reached = ends_as (Some e) u now (ClosedAt (Some e) now true) (closed_fault e now) h.reached });
}

module _ (target : Path) (first mid last : State → Type 0) (script rest : Option (List ℕ)) (before after : Option Takes) where
  -- it goes on to another end
  ends_then : (end : ImportEnd) (r : Result ImportEnd Fault) → (a : Imports (Ok end) target first mid script rest before after) → Arrived r target a.bytes a.taken rest a.exchanges
      → ((u : State) → mid u → EndsGiving (end_of r) (given target a.bytes) a.exchanges last u) → Imports r target first last script rest before after
  ends_then end r a arrived more = record {
    exchanges = a.exchanges;
    answered = a.answered;
    bytes = a.bytes;
    front = a.front;
    final = a.final;
    taken = a.taken;
    taken_is = a.taken_is;
    few = a.few;
    script_is = a.script_is;
    took = a.took;
    arrived = arrived;
    runs = λ t at. transcript_as t a.exchanges (EndsGiving None (given target a.bytes) a.exchanges mid) (EndsGiving (end_of r) (given target a.bytes) a.exchanges last) (a.runs t at) (λ u h. more u h.reached);
  }

  part : (bytes : List ℕ) (xs : List Exchange) → AllGone target bytes xs → SomeGone target bytes xs
  part bytes xs g = record { lines_are = ([], sym g.lines_are ∙ sym (append-nil (executed xs))); passed = g.passed }

  undone : (e : Fault) (end : ImportEnd) → is_made end ≡ true → (e ≡ Device) ⊎ (e ≡ Memory) → Imports (Ok end) target first mid script rest before after
      → ((s : State) → mid s → Ends (Some e) s last) → Imports (Err e) target first last script rest before after
  undone e (Whole count) made (inl is) a more =
      subst (λ k. Imports (Err k) target first last script rest before after) (sym is)
      (ends_then (Whole count) (Err Device) a (part a.bytes a.exchanges a.arrived.0, a.arrived.3) (λ u h. record { told = tt; reached = subst (λ k. Ends (Some k) u last) is (more u h) }))
  undone e (Whole count) made (inr is) a more =
      subst (λ k. Imports (Err k) target first last script rest before after) (sym is)
      (ends_then (Whole count) (Err Memory) a (part a.bytes a.exchanges a.arrived.0, ([], a.arrived.3 ∙ sym (append-nil a.bytes))) (λ u h. record { told = tt; reached = subst (λ k. Ends (Some k) u last) is (more u h) }))
  undone e BadStream made kind a more = cc
  undone e LongPath made kind a more = cc
  undone e (Refused r) made kind a more = cc
  undone e (Full free need) made kind a more = cc

  pub concluded : (r : Result ImportEnd Fault) (end : ImportEnd) → Imports (Ok end) target first mid script rest before after → Concludes r end mid last → Imports r target first last script rest before after
  concluded (Ok e) end a h =
      let b = subst (λ k. Imports (Ok k) target first mid script rest before after) (sym h.0) a in ends_then e (Ok e) b b.arrived (λ u at. record { told = tt; reached = h.1 u at })
  concluded (Err e) end a h = undone e end h.0 h.1 a h.2
