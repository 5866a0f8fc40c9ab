-- The lines of a generated load: what stands at each index of the script that a seed makes.
use Rattle.std.specs.Prelude.{◌≡◌, ◌≤◌, ℕ, zero, suc, ◌+◌, ◌-◌, ◌*◌, ◌/◌, ◌%◌, ◌^◌, List, ◌++◌, codes, replicate, nat_lt, ◌==◌, if◌then◌else◌}
use Rattle.std.specs.Fmt.{decimal}
use Rattle.hex.specs.Hex.{encode_lower}
use Rattle.bd_script.specs.declared.generated.DrawnLine.{DrawnLine}
use Rattle.bd_script.specs.declared.generated.Kind.{Kind}
use Rattle.bd_script.specs.declared.generated.Kind.TheVariants.{CreateFile, WriteFile, TruncateFile, RemoveFile, CloneFile, CloneDir, RemoveClone, ReadFile}

-- ---- draws

-- what a draw multiplies its state by
abbrev pub multiplier : ℕ
multiplier = 6364136223846793005

-- what it then adds
abbrev pub increment : ℕ
increment = 1442695040888963407

-- the state after a draw
unfoldable pub next_state : ℕ → ℕ
next_state x = (x * multiplier + increment) % 2 ^ 64

-- the state after so many draws from a state on
abbrev pub state_after : ℕ → ℕ → ℕ
state_after x zero = x
state_after x (suc j) = next_state (state_after x j)

-- the number below n that a draw gives which leaves the state x
abbrev pub number_below : ℕ → ℕ → ℕ
number_below n x = x / 2 ^ 33 % n

-- the number below n that comes after j draws from a state on
abbrev pub drawn : ℕ → ℕ → ℕ → ℕ
drawn x j n = number_below n (state_after x (suc j))

-- ---- lines

-- how many directories are made, each by a line of its own, before anything is drawn
abbrev pub directories : ℕ
directories = 8

-- what the first draw of a line makes of it
abbrev pub kind_of : ℕ → Kind
kind_of k =
    if nat_lt k 5 then CreateFile else if nat_lt k 10 then WriteFile
    else if k == 10 then TruncateFile else if k == 11 then RemoveFile
    else if k == 12 then CloneFile else if k == 13 then CloneDir
    else if k == 14 then RemoveClone else ReadFile

-- the five draws of a line, from the state before them on
abbrev pub line_from : ℕ → DrawnLine
line_from x = record {
  kind = kind_of (drawn x 0 16);
  dir = drawn x 1 directories;
  file = drawn x 2 64;
  place = drawn x 3 4096;
  byte = drawn x 4 256;
}

-- the line that is drawn after n others from a seed on
abbrev pub drawn_line : ℕ → ℕ → DrawnLine
drawn_line seed n = line_from (state_after seed (5 * n))

-- `/d`, the directory's number, `/f` and the file's
abbrev pub file_path : DrawnLine → List ℕ
file_path l = codes "/d" ++ decimal l.dir ++ codes "/f" ++ decimal l.file

-- where a file is cloned to: the same with `/g`
abbrev pub file_clone_path : DrawnLine → List ℕ
file_clone_path l = codes "/d" ++ decimal l.dir ++ codes "/g" ++ decimal l.file

-- `/d` and the directory's number
abbrev pub dir_path : DrawnLine → List ℕ
dir_path l = codes "/d" ++ decimal l.dir

-- where a directory is cloned to: `/c` and the drawn byte
abbrev pub dir_clone_path : DrawnLine → List ℕ
dir_clone_path l = codes "/c" ++ decimal l.byte

-- the drawn byte 32 times, in hex digits
abbrev pub written_text : DrawnLine → List ℕ
written_text l = encode_lower (replicate 32 l.byte)

-- what a line of each kind says
abbrev pub text_of_kind : Kind → DrawnLine → List ℕ
text_of_kind CreateFile l = codes "create " ++ file_path l
text_of_kind WriteFile l =
    codes "write " ++ file_path l ++ codes " " ++ decimal l.place ++ codes " " ++ written_text l
text_of_kind TruncateFile l = codes "truncate " ++ file_path l ++ codes " " ++ decimal l.place
text_of_kind RemoveFile l = codes "remove " ++ file_path l
text_of_kind CloneFile l = codes "clone " ++ file_path l ++ codes " " ++ file_clone_path l
text_of_kind CloneDir l = codes "clone " ++ dir_path l ++ codes " " ++ dir_clone_path l
text_of_kind RemoveClone l = codes "remove " ++ dir_clone_path l
text_of_kind ReadFile l =
    codes "read " ++ file_path l ++ codes " " ++ decimal l.place ++ codes " 64"

-- a drawn line
unfoldable pub line_text : DrawnLine → List ℕ
line_text l = text_of_kind l.kind l

-- the line at an index of the script that a seed makes, without its newline
unfoldable pub generated_line : ℕ → ℕ → List ℕ
generated_line seed i =
    if nat_lt i directories then codes "mkdir /d" ++ decimal i
    else line_text (drawn_line seed (i - directories))

-- ---- generators

-- the script that a generator makes: its seed, and how many of its lines are drawn
pub record Load : Type 0 where
  pub seed : ℕ
  pub count : ℕ

-- the script of a seed with so many drawn lines
abbrev pub load : ℕ → ℕ → Load
load seed count = record { seed = seed; count = count }

-- how many lines it has
abbrev pub line_count : Load → ℕ
line_count l = directories + l.count

-- the draws of so many lines were made from the seed on, none of them past the script's end
abbrev pub HasDrawn : ℕ → ℕ → ℕ → ℕ → Type 0
HasDrawn seed count n x = (x ≡ state_after seed (5 * n)) × (n ≤ count)
