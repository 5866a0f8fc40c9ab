-- The bytes of a reply, and which replies can be written.
use Rattle.std.specs.Prelude.{ℕ, List, [], ◌∷◌, ◌++◌, ◌+◌, ◌/◌, ◌%◌, codes, if◌then◌else◌, IsTrue, ⊤}
use Rattle.std.specs.List.{All, flat_map}
use Rattle.std.specs.Fmt.{decimal}
use Rattle.hex.specs.Hex.{encode_lower}
use Rattle.bd_names.specs.Names.{is_name}
use Rattle.bd_command.specs.Command.{IsReply}
use Rattle.bd_command.specs.declared.refusal.Refusal.{Refusal}
use Rattle.bd_command.specs.declared.refusal.Refusal.TheVariants.{NotFound, Exists, NoParent, NotDir, IsDir, Inside, Root, TooBig, BadPath, BadLine}
use Rattle.bd_command.specs.declared.reply.Listed.{Listed}
use Rattle.bd_command.specs.declared.reply.Listing.{Listing}
use Rattle.bd_command.specs.declared.reply.Reply.{Reply}
use Rattle.bd_command.specs.declared.reply.Reply.TheVariants.{Done, Bytes, Dir, File, Names, Refused}
use Rattle.bd_script.specs.declared.denial.Denial.{Denial}
use Rattle.bd_script.specs.declared.denial.Denial.TheVariants.{NoHandle, Gone, HandlesFull, LongPath, BadStream}
use Rattle.bd_script.specs.declared.replies.LineReply.{LineReply}
use Rattle.bd_script.specs.declared.replies.LineReply.TheVariants.{Command, Unread, Walk, Done as Made, Free, Full, Stopped}

-- the number and the name of a refusal
abbrev pub refusal_text : Refusal → List ℕ
refusal_text NotFound = codes "1 not-found"
refusal_text Exists = codes "2 exists"
refusal_text NoParent = codes "3 no-parent"
refusal_text NotDir = codes "4 not-dir"
refusal_text IsDir = codes "5 is-dir"
refusal_text Inside = codes "6 inside"
refusal_text Root = codes "7 root"
refusal_text TooBig = codes "8 too-big"
refusal_text BadPath = codes "9 bad-path"
refusal_text BadLine = codes "10 bad-line"

-- the number and the name of a denial
abbrev pub denial_text : Denial → List ℕ
denial_text NoHandle = codes "11 no-handle"
denial_text Gone = codes "12 gone"
denial_text HandlesFull = codes "13 handles-full"
denial_text LongPath = codes "14 long-path"
denial_text BadStream = codes "15 bad-stream"

-- the text of a refused line
abbrev pub no_text : Refusal → List ℕ
no_text refusal = codes "no " ++ refusal_text refusal

-- bytes in lower-case hex digits after a space, or nothing where there are none
abbrev pub chunk_text : List ℕ → List ℕ
chunk_text [] = []
chunk_text (b ∷ bs) = 32 ∷ encode_lower (b ∷ bs)

-- a space, a name, and a slash where it is a directory's
abbrev pub listed_text : Listed → List ℕ
listed_text l = 32 ∷ l.name ++ (if l.is_dir then 47 ∷ [] else [])

-- the names of a listing, and ` +` where more follow
abbrev pub listing_text : Listing → List ℕ
listing_text l = codes "ok" ++ flat_map listed_text l.names ++ (if l.more then codes " +" else [])

-- the last octal digit of a number
abbrev pub octal_digit : ℕ → ℕ
octal_digit n = 48 + n % 8

-- a mode in four octal digits
abbrev pub mode_text : ℕ → List ℕ
mode_text mode =
    octal_digit (mode / 512) ∷ octal_digit (mode / 64) ∷ octal_digit (mode / 8)
    ∷ octal_digit mode ∷ []

-- the reply to a command
abbrev pub reply_text : Reply → List ℕ
reply_text Done = codes "ok"
reply_text (Bytes bytes) = codes "ok" ++ chunk_text bytes
reply_text (Dir mode) = codes "ok dir " ++ mode_text mode
reply_text (File len mode) = codes "ok file " ++ decimal len ++ codes " " ++ mode_text mode
reply_text (Names l) = listing_text l
reply_text (Refused refusal) = no_text refusal

-- a command's reply as it is written, with its newline
abbrev pub reply_line : Reply → List ℕ
reply_line reply = reply_text reply ++ 10 ∷ []

-- what the last walk visited, and how high the tree was before it
abbrev pub walk_text : ℕ → ℕ → List ℕ
walk_text visits height = codes "ok walk " ++ decimal visits ++ codes " of " ++ decimal height

-- how many slots are free, and how many there are
abbrev pub free_text : ℕ → ℕ → List ℕ
free_text free slots = codes "ok free " ++ decimal free ++ codes " of " ++ decimal slots

-- how many slots are free, and how many are needed
abbrev pub full_text : ℕ → ℕ → List ℕ
full_text free need = codes "full " ++ decimal free ++ codes " " ++ decimal need

-- the reply to a line
abbrev pub line_reply_text : LineReply → List ℕ
line_reply_text (Command reply) = reply_text reply
line_reply_text (Unread refusal) = no_text refusal
line_reply_text (Walk visits height) = walk_text visits height
line_reply_text Made = codes "ok"
line_reply_text (Free free slots) = free_text free slots
line_reply_text (Full free need) = full_text free need
line_reply_text Stopped = codes "ok"

-- a line's reply as it is written, with its newline
abbrev pub line_reply_line : LineReply → List ℕ
line_reply_line reply = line_reply_text reply ++ 10 ∷ []

-- ---- which replies can be written

-- a command's reply is one that can be written
abbrev pub IsLineReply : LineReply → Type 0
IsLineReply (Command reply) = IsReply reply
IsLineReply (Unread refusal) = ⊤
IsLineReply (Walk visits height) = ⊤
IsLineReply Made = ⊤
IsLineReply (Free free slots) = ⊤
IsLineReply (Full free need) = ⊤
IsLineReply Stopped = ⊤

-- ---- replies of one line

-- what a listing has of a name is one
abbrev pub IsNamed : Listed → Type 0
IsNamed l = IsTrue (is_name l.name)

-- the names that a command's reply lists are names
abbrev pub AreListed : Reply → Type 0
AreListed Done = ⊤
AreListed (Bytes bytes) = ⊤
AreListed (Dir mode) = ⊤
AreListed (File len mode) = ⊤
AreListed (Names l) = All IsNamed l.names
AreListed (Refused refusal) = ⊤

-- so are those of the reply to a line
abbrev pub ListsNames : LineReply → Type 0
ListsNames (Command reply) = AreListed reply
ListsNames (Unread refusal) = ⊤
ListsNames (Walk visits height) = ⊤
ListsNames Made = ⊤
ListsNames (Free free slots) = ⊤
ListsNames (Full free need) = ⊤
ListsNames Stopped = ⊤
