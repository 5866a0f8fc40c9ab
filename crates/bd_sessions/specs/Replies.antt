-- The bytes of what is said to a client.
use Rattle.std.specs.Prelude.{ℕ, List, [], ◌∷◌, ◌++◌, codes, ⊤}
use Rattle.std.specs.Fmt.{decimal}
use Rattle.std.specs.declared.option.Option.{Option}
use Rattle.std.specs.declared.option.Option.TheVariants.{None, Some}
use Rattle.bd_command.specs.declared.refusal.Refusal.TheVariants as refusal
use Rattle.bd_command.specs.declared.reply.Reply.TheVariants as reply
use Rattle.bd_script.specs.Replies.{denial_text, line_reply_text, IsLineReply}
use Rattle.bd_script.specs.declared.replies.LineReply.{LineReply}
use Rattle.bd_script.specs.declared.replies.LineReply.TheVariants as line_reply
use Rattle.bd_sessions.specs.declared.asking.SessionReply.{SessionReply}
use Rattle.bd_sessions.specs.declared.asking.SessionReply.TheVariants as said
use Rattle.bd_sessions.specs.declared.replies.TurnReply.{TurnReply}
use Rattle.bd_sessions.specs.declared.replies.TurnReply.TheVariants.{Line, Opened, Closed, No}

-- what is said to a client whose line was replied to in this way
abbrev pub own_reply : SessionReply → LineReply → TurnReply
own_reply said.Same line = Line line
own_reply said.IsDir line = Line (line_reply.Command (reply.Refused refusal.IsDir))
own_reply (said.Opened number) line = Opened number
own_reply (said.No denial) line = No denial

-- what is said, without the client
abbrev pub turn_text : TurnReply → List ℕ
turn_text (Line line) = line_reply_text line
turn_text (Opened number) = codes "ok " ++ decimal number
turn_text Closed = codes "ok"
turn_text (No denial) = codes "no " ++ denial_text denial

-- the same as it is written, with its newline
abbrev pub turn_line : TurnReply → List ℕ
turn_line said = turn_text said ++ 10 ∷ []

-- the client's number and a space, where there is a client
abbrev pub tag_text : Option ℕ → List ℕ
tag_text None = []
tag_text (Some client) = decimal client ++ 32 ∷ []

-- what is said to a client
abbrev pub said_text : Option ℕ → TurnReply → List ℕ
said_text client said = tag_text client ++ turn_text said

-- what is said to a client as it is written, with its newline
abbrev pub said_line : Option ℕ → TurnReply → List ℕ
said_line client said = said_text client said ++ 10 ∷ []

-- what is said can be written
abbrev pub IsTurnReply : TurnReply → Type 0
IsTurnReply (Line line) = IsLineReply line
IsTurnReply (Opened number) = ⊤
IsTurnReply Closed = ⊤
IsTurnReply (No denial) = ⊤
