-- The lines of clients, and what each of them means.
use Rattle.std.specs.Prelude.{ℕ, ◌+◌, ◌-◌, ◌<◌, ◌^◌, ◌≤◌, ◌&&◌, List, [], ◌∷◌, length, nat_le, ◌==◌, if◌then◌else◌, codes, ⊤}
use Rattle.std.specs.List.{list_any}
use Rattle.std.specs.Char.{is_ascii_digit}
use Rattle.std.specs.declared.option.Option.{Option}
use Rattle.std.specs.declared.option.Option.TheVariants.{None, Some}
use Rattle.std.specs.declared.result.Result.{Result}
use Rattle.std.specs.declared.result.Result.TheVariants.{Ok, Err}
use Rattle.bd_limits.specs.Limits.{line_limit, read_limit}
use Rattle.bd_names.specs.Names.{same_text}
use Rattle.bd_command.specs.Command.{IsShortPath, IsWritten}
use Rattle.bd_command.specs.declared.refusal.Refusal.{Refusal}
use Rattle.bd_command.specs.declared.refusal.Refusal.TheVariants.{BadLine}
use Rattle.bd_model.specs.Tree.{Path}
use Rattle.bd_script.specs.Lines.{LineMeaning, IsLine, is_empty, number_of, hex_of, only_path, words_of, line_of}
use Rattle.bd_sessions.specs.declared.turn.Turn.{Turn}
use Rattle.bd_sessions.specs.declared.turn.Turn.TheVariants.{Plain, Open, Read, Write, Stat, Close}
use Rattle.bd_sessions.specs.declared.verb.HandleVerb.{HandleVerb}
use Rattle.bd_sessions.specs.declared.verb.HandleVerb.TheVariants as verb

-- ---- cutting a line

-- the bytes before the first space
abbrev pub first_word : List ℕ → List ℕ
first_word [] = []
first_word (b ∷ bs) = if b == 32 then [] else b ∷ first_word bs

-- the bytes after the first space
abbrev pub after_word : List ℕ → List ℕ
after_word [] = []
after_word (b ∷ bs) = if b == 32 then bs else after_word bs

-- ---- the client

-- the client's number that a word is: `0` to `15`
abbrev pub client_number : List ℕ → Option ℕ
client_number [] = None
client_number (a ∷ []) = if is_ascii_digit a then Some (a - 48) else None
client_number (a ∷ b ∷ []) =
    if a == 49 && (nat_le 48 b && nat_le b 53) then Some (10 + (b - 48)) else None
client_number (a ∷ b ∷ c ∷ word) = None

-- the client whose line it is: its number is the first word
abbrev pub client_of : List ℕ → Option ℕ
client_of line = client_number (first_word line)

-- ---- what a client's line means

-- a turn, or why it is refused
abbrev pub TurnMeaning : Type 0
TurnMeaning = Result Turn Refusal

-- a line of a script, as a turn
abbrev pub plain : LineMeaning → TurnMeaning
plain (Ok line) = Ok (Plain line)
plain (Err refusal) = Err refusal

-- the turn that goes on with a number; a word that is none makes a bad line
abbrev pub turn_with_number : Option ℕ → (ℕ → TurnMeaning) → TurnMeaning
turn_with_number None turn = Err BadLine
turn_with_number (Some n) turn = turn n

-- the same with bytes
abbrev pub turn_with_bytes : Option (List ℕ) → (List ℕ → TurnMeaning) → TurnMeaning
turn_with_bytes None turn = Err BadLine
turn_with_bytes (Some bytes) turn = turn bytes

-- what opens a path, or its refusal
abbrev pub opens : Result Path Refusal → TurnMeaning
opens (Ok path) = Ok (Open path)
opens (Err refusal) = Err refusal

-- what follows `open`: a path
abbrev pub turn_of_open : List (List ℕ) → TurnMeaning
turn_of_open words = opens (only_path words)

-- what follows `hread`: a handle, an offset and how many bytes
abbrev pub turn_of_read : List (List ℕ) → TurnMeaning
turn_of_read (handle ∷ off ∷ len ∷ []) =
    turn_with_number (number_of handle) (λ h. turn_with_number (number_of off) (λ n.
    turn_with_number (number_of len) (λ m.
    if nat_le m read_limit then Ok (Read h n m) else Err BadLine)))
turn_of_read words = Err BadLine

-- what follows `hwrite`: a handle, an offset and bytes
abbrev pub turn_of_write : List (List ℕ) → TurnMeaning
turn_of_write (handle ∷ off ∷ hex ∷ []) =
    turn_with_number (number_of handle) (λ h. turn_with_number (number_of off) (λ n.
    turn_with_bytes (hex_of hex) (λ bytes. Ok (Write h n bytes))))
turn_of_write words = Err BadLine

-- the one number that follows a verb
abbrev pub only_number : List (List ℕ) → Option ℕ
only_number (number ∷ []) = number_of number
only_number words = None

-- the turn of a verb of handles and the words after it
abbrev pub turn_of_words : HandleVerb → List (List ℕ) → TurnMeaning
turn_of_words verb.Open words = turn_of_open words
turn_of_words verb.Read words = turn_of_read words
turn_of_words verb.Write words = turn_of_write words
turn_of_words verb.Stat words = turn_with_number (only_number words) (λ h. Ok (Stat h))
turn_of_words verb.Close words = turn_with_number (only_number words) (λ h. Ok (Close h))

-- the same where none of the words is empty
abbrev pub turn_of_parts : HandleVerb → List (List ℕ) → TurnMeaning
turn_of_parts v words = if list_any is_empty words then Err BadLine else turn_of_words v words

-- the verb of handles that a word is, if it is one
abbrev pub handle_verb_of : List ℕ → Option HandleVerb
handle_verb_of word =
    if same_text word (codes "open") then Some verb.Open
    else if same_text word (codes "hread") then Some verb.Read
    else if same_text word (codes "hwrite") then Some verb.Write
    else if same_text word (codes "hstat") then Some verb.Stat
    else if same_text word (codes "close") then Some verb.Close
    else None

-- the turn of a text: one of handles, or else a line of a script
abbrev pub turn_by : Option HandleVerb → List ℕ → TurnMeaning
turn_by None text = plain (line_of text)
turn_by (Some v) text = turn_of_parts v (words_of (after_word text))

-- the turn of what follows the client's number
unfoldable pub turn_in : List ℕ → TurnMeaning
turn_in text = turn_by (handle_verb_of (first_word text)) text

-- the one meaning of a client's line, which has at most `line_limit` bytes with the number
unfoldable pub turn_of : List ℕ → TurnMeaning
turn_of line = if nat_le (length line) line_limit then turn_in (after_word line) else Err BadLine

-- ---- limits

-- the fields of a turn are within their limits
abbrev pub IsTurn : Turn → Type 0
IsTurn (Plain line) = IsLine line
IsTurn (Open path) = IsShortPath path
IsTurn (Read handle off len) = (off < 2 ^ 32) × (len ≤ read_limit)
IsTurn (Write handle off bytes) = (off < 2 ^ 32) × IsWritten bytes
IsTurn (Stat handle) = ⊤
IsTurn (Close handle) = ⊤
