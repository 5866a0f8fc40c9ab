-- In a script of one client what follows from a line is what follows from its command or its service.
use Rattle.std.proofs.Common.{◌≡◌, ℕ, Bool, true, false, cond, map, refl, sym, ap, ◌∙◌}
use Rattle.std.specs.declared.result.Result.TheVariants.{Ok}
use Rattle.bd_command.specs.declared.Command.{Command}
use Rattle.bd_script.specs.declared.line.Line.TheVariants as line
use Rattle.bd_script.specs.declared.replies.LineReply.{LineReply}
use Rattle.bd_sessions.specs.declared.replies.TurnReply.{TurnReply}
use Rattle.bd_sessions.specs.declared.replies.TurnReply.TheVariants as turn_reply
use Rattle.bd_sessions.specs.declared.turn.Turn.TheVariants.{Plain}
use Rattle.bd_sessions.specs.Handles.{Kept, no_handles, one_more, is_accepted, heard}
use Rattle.bd_sessions.specs.Telling.{Doing, DoesTurn}

-- a command, its reply, and no handle before it or after it
pub record RunsAlone {S : Type 0} (d : Doing S) (s : S) (c : Command) (said : TurnReply) (after : S) : Type 0 where
  pub line : LineReply
  pub middle : S
  pub answered : d.answers s c line middle
  pub says : said ≡ turn_reply.Line line
  pub keeps : after ≡ d.keeping no_handles middle

pub heard-none : (c : Command) (reply : LineReply) → heard c reply no_handles ≡ no_handles
heard-none c reply = by (is_accepted c reply)
  where
    by : (t : Bool) → cond t (map (map (one_more c)) no_handles) no_handles ≡ no_handles
    by true = refl
    by false = refl

-- a command's line, whoever asks
pub runs_alone : {S : Type 0} (d : Doing S) (s : S) (client : ℕ) (c : Command) (said : TurnReply) (after : S) → d.kept s ≡ no_handles
    → DoesTurn d s client (Ok (Plain (line.Run c))) said after → RunsAlone d s c said after
runs_alone d s client c said after none h = record {
  line = h.line;
  middle = h.middle;
  answered = h.answered;
  says = h.says;
  keeps = h.keeps ∙ ap (λ (k : Kept). d.keeping k h.middle) (ap (heard c h.line) none ∙ heard-none c h.line);
}

-- and back
pub alone_runs : {S : Type 0} (d : Doing S) (s : S) (client : ℕ) (c : Command) (said : TurnReply) (after : S) → d.kept s ≡ no_handles
    → RunsAlone d s c said after → DoesTurn d s client (Ok (Plain (line.Run c))) said after
alone_runs d s client c said after none h = record {
  line = h.line;
  middle = h.middle;
  answered = h.answered;
  says = h.says;
  keeps = h.keeps ∙ ap (λ (k : Kept). d.keeping k h.middle) (sym (ap (heard c h.line) none ∙ heard-none c h.line));
}
