-- What a fill says in place of its replies.
use Rattle.std.specs.Prelude.{ℕ, Bool, true, false, not, List, length}
use Rattle.std.specs.List.{count_by}
use Rattle.bd_command.specs.declared.reply.Reply.{Reply}
use Rattle.bd_command.specs.declared.reply.Reply.TheVariants.{Done, Bytes, Dir, File, Names, Refused}
use Rattle.bd_script.specs.declared.replies.LineReply.{LineReply}
use Rattle.bd_script.specs.declared.replies.LineReply.TheVariants as reply
use Rattle.bd_fill.specs.Counting.{summary_line}

-- the command is refused
abbrev pub is_refused : Reply → Bool
is_refused Done = false
is_refused (Bytes bytes) = false
is_refused (Dir mode) = false
is_refused (File len mode) = false
is_refused (Names l) = false
is_refused (Refused refusal) = true

-- the reply says `no`
abbrev pub says_no : LineReply → Bool
says_no (reply.Command r) = is_refused r
says_no (reply.Unread refusal) = true
says_no (reply.Walk visits height) = false
says_no reply.Done = false
says_no (reply.Free free slots) = false
says_no (reply.Full free need) = false
says_no reply.Stopped = false

-- it says `full`
abbrev pub says_full : LineReply → Bool
says_full (reply.Command r) = false
says_full (reply.Unread refusal) = false
says_full (reply.Walk visits height) = false
says_full reply.Done = false
says_full (reply.Free free slots) = false
says_full (reply.Full free need) = true
says_full reply.Stopped = false

-- it says `ok`
abbrev pub says_ok : LineReply → Bool
says_ok (reply.Command r) = not (is_refused r)
says_ok (reply.Unread refusal) = false
says_ok (reply.Walk visits height) = true
says_ok reply.Done = true
says_ok (reply.Free free slots) = true
says_ok (reply.Full free need) = false
says_ok reply.Stopped = true

-- how many lines were executed, and how many of their replies say `ok`, `no` and `full`
unfoldable pub summary : List LineReply → List ℕ
summary replies =
    summary_line (length replies) (count_by says_ok replies) (count_by says_no replies)
    (count_by says_full replies)
