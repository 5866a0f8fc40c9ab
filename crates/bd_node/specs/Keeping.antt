-- Messages of which some stay, and where these then stand.
use Rattle.std.specs.Prelude.{ℕ, zero, suc, Bool, false, if◌then◌else◌, List, [], ◌∷◌, take, count_by}
use Rattle.bd_message.specs.declared.message.Message.{Message}

-- the messages of which the list says that they stay
abbrev pub staying : List Bool → List Message → List Message
staying [] buffer = []
staying (stays ∷ mask) [] = []
staying (stays ∷ mask) (m ∷ buffer) =
    if stays then m ∷ staying mask buffer else staying mask buffer

-- how many of the messages before a place stay
abbrev pub stay_count : List Bool → ℕ → ℕ
stay_count mask n = count_by (λ (stays : Bool). stays) (take n mask)

-- the message at a place stays
abbrev pub stays_at : List Bool → ℕ → Bool
stays_at [] place = false
stays_at (stays ∷ mask) zero = stays
stays_at (stays ∷ mask) (suc place) = stays_at mask place

-- the places of those messages of these places that stay, once the others are gone
abbrev pub moved : List Bool → List ℕ → List ℕ
moved mask [] = []
moved mask (place ∷ places) =
    if stays_at mask place then stay_count mask place ∷ moved mask places else moved mask places
