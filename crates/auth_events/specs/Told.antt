-- What a book tells: its entries and its new names, in the order in which they were made.
use Rattle.std.specs.Prelude.{ℕ, ◌⊎◌, ◌+◌, ◌<◌, ◌*◌, Bool, true, false, not, if◌then◌else◌, IsTrue, List, [], ◌∷◌, ◌++◌, length, reverse, take, Option, None, Some, is_some, filter, filter_map, option_map, ◌==◌}
use Rattle.std.specs.List.{fold, list_all}
use Rattle.spaces.specs.declared.roster.Roster.{Roster}
use Rattle.spaces.specs.declared.terms.Terms.{Terms}
use Rattle.spaces.specs.ProtectionSpaces.{ProtectionSpace}
use Rattle.spaces.specs.Sites.{numbered}
use Rattle.auth_events.specs.declared.journal.Entry.{Entry}
use Rattle.auth_events.specs.declared.journal.BookReply.{BookReply}
use Rattle.auth_events.specs.declared.journal.BookReply.TheVariants.{Pending}
use Rattle.auth_events.specs.declared.told.Told.{Told}
use Rattle.auth_events.specs.declared.told.Told.TheVariants.{Made, SpaceNamed, TermsNamed, TextNamed}
use Rattle.auth_events.specs.declared.told.NewName.{NewName}
use Rattle.auth_events.specs.declared.told.NameKind.{NameKind}
use Rattle.auth_events.specs.declared.told.NameKind.TheVariants.{Space as OfSpace, Terms as OfTerms, Text as OfText}
use Rattle.auth_events.specs.Tables.{Tables, no_names, with_space, with_terms, with_text, space_number, terms_number, nonce_for}
use Rattle.auth_events.specs.Book.{IsLegal, retired, draws}

abbrev pub entry_told : Told → Option Entry
entry_told (Made entry) = Some entry
entry_told (SpaceNamed caller space) = None
entry_told (TermsNamed caller name) = None
entry_told (TextNamed caller text) = None

-- the entries, the earliest first
abbrev pub journal : List Told → List Entry
journal told = filter_map entry_told told

-- the entries, the latest first
abbrev pub past : List Told → List Entry
past told = reverse (journal told)

-- the names, with that of the item
abbrev pub with_told : Tables → Told → Tables
with_told names (Made entry) = names
with_told names (SpaceNamed caller space) = with_space names space
with_told names (TermsNamed caller name) = with_terms names name
with_told names (TextNamed caller text) = with_text names text

-- the names that were told
abbrev pub names_told : List Told → Tables
names_told told = fold with_told no_names told

-- the entries are those of calls: draws stand in merged histories only
abbrev pub has_no_draw : List Told → Bool
has_no_draw told = list_all (λ entry. not (draws entry.call)) (journal told)

-- each number stood for its thing before an entry used it: what was told first is legal under the names that were told by then
abbrev pub IsLegalThroughout : Roster → List Told → Type 0
IsLegalThroughout roster told = (n : ℕ) → IsLegal roster (names_told (take n told)) (journal (take n told))

-- WHAT A CALL ADDS

abbrev pub is_pending : BookReply → Bool
is_pending Pending = true
is_pending _ = false

-- with the entry, unless its reply is `Pending`
abbrev pub told_after : List Told → Entry → List Told
told_after told entry = if is_pending entry.reply then told else told ++ Made entry ∷ []

-- the nonce that the call took out, or 0
abbrev pub retired_by : Tables → List Entry → Entry → ℕ
retired_by names before entry = if is_pending entry.reply then 0 else retired names entry before

-- with the space, unless it has its number already
abbrev pub told_space : ℕ → Tables → List Told → ProtectionSpace → List Told
told_space caller names told space = if is_some (space_number names space) then told else told ++ SpaceNamed caller space ∷ []

-- with the terms, unless they have their number already
abbrev pub told_terms : ℕ → Tables → List Told → ℕ → Terms → List Told
told_terms caller names told s terms =
    if is_some (terms_number names s terms)
    then told
    else told ++ TermsNamed caller (record { space = s; terms = terms; nonce = nonce_for names s terms }) ∷ []

-- there is a number left for the space, or it has one
abbrev pub MayNameSpace : Roster → Tables → ProtectionSpace → Type 0
MayNameSpace roster names space = (length names.spaces < 64 * length roster.requests) ⊎ IsTrue (is_some (space_number names space))

-- there is a number left for the terms and their nonce, or they have theirs
abbrev pub MayNameTerms : Roster → Tables → ℕ → Terms → Type 0
MayNameTerms roster names s terms =
    (length names.terms < 64 * length roster.requests)
    × ((length names.nonces < 16 * length roster.requests) ⊎ IsTrue (is_some (numbered names.nonces (nonce_for names s terms))))
    ⊎ IsTrue (is_some (terms_number names s terms))

-- THE TOLD LIST OF A JOURNAL AND ITS NEW NAMES

-- the item that tells the thing of a new name
abbrev pub item_named : Tables → ℕ → NameKind → ℕ → Option Told
item_named names caller OfSpace number = option_map (λ space. SpaceNamed caller space) (numbered names.spaces number)
item_named names caller OfTerms number = option_map (λ name. TermsNamed caller name) (numbered names.terms number)
item_named names caller OfText number = option_map (λ text. TextNamed caller text) (numbered names.texts number)

abbrev pub name_told : Tables → NewName → Option Told
name_told names made = item_named names made.caller made.kind made.number

-- the number of the new name stands for a thing
abbrev pub IsNamed : Tables → NewName → Type 0
IsNamed names made = IsTrue (is_some (name_told names made))

-- the names that were made before the entry of that place, and behind the one before it
abbrev pub names_at : Tables → List NewName → ℕ → List Told
names_at names made place = filter_map (name_told names) (filter (λ name. name.before == place) made)

-- the entries from a place on, with the names between them
abbrev pub weave : Tables → List NewName → ℕ → List Entry → List Told
weave names made place [] = names_at names made place
weave names made place (entry ∷ entries) = names_at names made place ++ Made entry ∷ weave names made (place + 1) entries
