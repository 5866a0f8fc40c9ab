-- Along a transcript a tree stays a tree.
use Rattle.std.proofs.Common.{◌≡◌, ℕ, List, [], ◌∷◌, ap, sym, subst}
use Rattle.std.specs.declared.option.Option.TheVariants.{Some}
use Rattle.std.specs.declared.result.Result.TheVariants.{Ok, Err}
use Rattle.bd_command.specs.declared.Command.{Command}
use Rattle.bd_model.specs.Tree.{Tree, IsTree}
use Rattle.bd_model.specs.Laws.{after}
use Rattle.bd_model.proofs.TreeStays.{after_stays}
use Rattle.bd_device.specs.Blocks.{Image}
use Rattle.bd_image.specs.ImageTree.{LeadsOn, ImageStandsFor}
use Rattle.bd_script.specs.Lines.{LineMeaning}
use Rattle.bd_script.specs.declared.line.Line.{Line}
use Rattle.bd_script.specs.declared.line.Line.TheVariants.{Run, Walk, Df, Sync, Checkpoint, Reclaim, Stop}
use Rattle.bd_script.specs.declared.replies.LineReply.{LineReply}
use Rattle.bd_script.specs.declared.replies.LineReply.TheVariants as reply
use Rattle.bd_sessions.specs.Handles.{table_in}
use Rattle.bd_sessions.specs.Sessions.{asked}
use Rattle.bd_sessions.specs.Spoken.{Spoken, client_or_none}
use Rattle.bd_sessions.specs.Telling.{DoesAsk, DoesTurn, FollowsSpoken}
use Rattle.bd_sessions.specs.Turns.{TurnMeaning}
use Rattle.bd_sessions.specs.declared.asking.Ask.{Ask}
use Rattle.bd_sessions.specs.declared.asking.Ask.TheVariants as ask
use Rattle.bd_sessions.specs.declared.replies.TurnReply.{TurnReply}
use Rattle.bd_sessions.specs.declared.turn.Turn.{Turn}
use Rattle.bd_view.specs.Views.{View}
use Rattle.bd_view.specs.Moves.{Saves}
use Rattle.bd_view.specs.Reclaiming.{IsReclaim}
use Rattle.bd_shell.specs.Transcript.{State, Entry, Answers, Serves, FillsCheckpoint, FillsReclaim, Follows, IsTranscript, AllCanBe, IsLimited, doing, line_for, line_for_turn, line_in}
use Rattle.bd_shell.proofs.Turns.{lifts}

by_same : (s after : State) → after.tree ≡ s.tree → IsTree s.tree → IsTree after.tree
by_same s after same tree = subst IsTree (sym same) tree

answers_tree : (s : State) (c : Command) (said : LineReply) (after : State) → IsTree s.tree → Answers s c said after → IsTree after.tree
answers_tree s c (reply.Command r) after tree h = subst IsTree (sym (ap (λ (t : State). t.tree) h.after_is)) (after_stays s.tree c tree h.limits)
answers_tree s c (reply.Unread refusal) after tree h = absurd h
answers_tree s c (reply.Walk visits height) after tree h = absurd h
answers_tree s c reply.Done after tree h = absurd h
answers_tree s c (reply.Free free slots) after tree h = absurd h
answers_tree s c (reply.Full free need) after tree h = by_same s after (ap (λ (t : State). t.tree) h.after_is) tree
answers_tree s c reply.Stopped after tree h = absurd h

serves_tree : (moves : View → View → Type 0) (fills : ℕ → ℕ → View → View → Type 0) (s : State) (said : LineReply) (after : State) → Serves moves fills s said after
    → after.tree ≡ s.tree
serves_tree moves fills s (reply.Command r) after h = absurd h
serves_tree moves fills s (reply.Unread refusal) after h = absurd h
serves_tree moves fills s (reply.Walk visits height) after h = absurd h
serves_tree moves fills s reply.Done after h = ap (λ (t : State). t.tree) h.1
serves_tree moves fills s (reply.Free free slots) after h = absurd h
serves_tree moves fills s (reply.Full free need) after h = ap (λ (t : State). t.tree) h.1
serves_tree moves fills s reply.Stopped after h = absurd h

follows_tree : (s : State) (l : LineMeaning) (said : LineReply) (after : State) → IsTree s.tree → Follows s l said after → IsTree after.tree
follows_tree s (Ok (Run c)) said after tree h = answers_tree s c said after tree h
follows_tree s (Ok Walk) said after tree h = by_same s after (ap (λ (t : State). t.tree) h.1) tree
follows_tree s (Ok Df) said after tree h = by_same s after (ap (λ (t : State). t.tree) h.1) tree
follows_tree s (Ok Sync) said after tree h = by_same s after (ap (λ (t : State). t.tree) h.1) tree
follows_tree s (Ok Checkpoint) said after tree h = by_same s after (serves_tree Saves FillsCheckpoint s said after h) tree
follows_tree s (Ok Reclaim) said after tree h = by_same s after (serves_tree IsReclaim FillsReclaim s said after h) tree
follows_tree s (Ok Stop) said after tree h = by_same s after (ap (λ (t : State). t.tree) h.1) tree
follows_tree s (Err refusal) said after tree h = by_same s after (ap (λ (t : State). t.tree) h.1) tree

answers_limited : (s : State) (c : Command) (said : LineReply) (after : State) → Answers s c said after → IsLimited (Some (Run c))
answers_limited s c (reply.Command r) after h = h.limits
answers_limited s c (reply.Unread refusal) after h = absurd h
answers_limited s c (reply.Walk visits height) after h = absurd h
answers_limited s c reply.Done after h = absurd h
answers_limited s c (reply.Free free slots) after h = absurd h
answers_limited s c (reply.Full free need) after h = h.limits
answers_limited s c reply.Stopped after h = absurd h

follows_limited : (s : State) (l : Line) (said : LineReply) (after : State) → Follows s (Ok l) said after → IsLimited (Some l)
follows_limited s (Run c) said after h = answers_limited s c said after h
follows_limited s Walk said after h = tt
follows_limited s Df said after h = tt
follows_limited s Sync said after h = tt
follows_limited s Checkpoint said after h = tt
follows_limited s Reclaim said after h = tt
follows_limited s Stop said after h = tt

-- what a line of a client asks for keeps the limits
spoken_limited : (s : State) (x : Spoken) (said : TurnReply) (after : State) → FollowsSpoken doing s x said after → IsLimited (line_in s x)
spoken_limited s x said after h = by_turn x.turn h
  where
    by_ask : (t : Turn) (a : Ask) → DoesAsk doing s (client_or_none x.client) t a said after → IsLimited (line_for a)
    by_ask t (ask.Do c) g = answers_limited s c g.line g.middle g.answered
    by_ask t (ask.Service l) g = follows_limited s l g.line after g.served
    by_ask t ask.Closed g = tt
    by_ask t (ask.No denial) g = tt

    by_turn : (t : TurnMeaning) → DoesTurn doing s (client_or_none x.client) t said after → IsLimited (line_for_turn (table_in s.kept (client_or_none x.client)) t)
    by_turn (Ok t) g = by_ask t (asked (table_in s.kept (client_or_none x.client)) t) g
    by_turn (Err refusal) g = tt

pub each_can_be : (s : State) (es : List Entry) → IsTree s.tree → IsTranscript s es → AllCanBe s es
each_can_be s [] tree h = tt
each_can_be s (e ∷ es) tree h =
    let after : IsTree e.state.tree =
    lifts (λ (a b : State). IsTree a.tree → IsTree b.tree) (λ a l r b f t. follows_tree a l r b t f) (λ a b kept f. f) s e.line e.said e.state h.0.follows tree in
    (record { tree = after; limits = spoken_limited s e.line e.said e.state h.0.follows }, each_can_be e.state es after h.1)

-- ---- the tree of an image

-- records of commands lead from a tree to a tree
leads_tree : (version : ℕ) (rs : List (List ℕ)) (t u : Tree) → IsTree t → LeadsOn version rs t u → IsTree u
leads_tree version [] t u tree h = subst IsTree h tree
leads_tree version (r ∷ rs) t u tree h = leads_tree version rs (after t h.0) u (after_stays t h.0 tree h.1.0.1) h.4

pub image_tree : (t : Tree) (n : ℕ) (image : Image) → ImageStandsFor t n image → IsTree t
image_tree t n image h = leads_tree _ _ h.3.base t h.3.have.is_tree h.3.leads
