-- Worked histories, each request with a caller of its own number. Their numbers are ASCII codes: 47 is `/`.
use Rattle.std.specs.Prelude.{ℕ, zero, suc, ◌+◌, false, List, [], ◌∷◌, ◌++◌, None, map, flat_map, replicate}
use Rattle.std.specs.List.{range_with_len}
use Rattle.auth_text.specs.Login.{Login}
use Rattle.spaces.specs.ProtectionSpaces.{ProtectionSpace}
use Rattle.spaces.specs.declared.place.Origin.{Origin}
use Rattle.spaces.specs.declared.roster.Roster.{Roster}
use Rattle.spaces.specs.declared.roster.Request.{Request}
use Rattle.spaces.specs.declared.roster.Method.TheVariants.{Get}
use Rattle.spaces.specs.declared.site.Site.{Site}
use Rattle.spaces.specs.declared.site.Target.TheVariants.{Server}
use Rattle.spaces.specs.declared.space.Scheme.TheVariants.{Basic, Digest}
use Rattle.spaces.specs.declared.terms.Algorithm.TheVariants.{Md5}
use Rattle.spaces.specs.declared.terms.Qop.TheVariants.{Auth}
use Rattle.auth_events.specs.declared.journal.Call.{Call}
use Rattle.auth_events.specs.declared.journal.Call.TheVariants.{Begin, Preempt, Select, Reject, Answer, Take, Note, End}
use Rattle.auth_events.specs.declared.journal.BookReply.{BookReply}
use Rattle.auth_events.specs.declared.journal.BookReply.TheVariants.{Begun, Ready, Nothing, Cached, Follow, Lead, Removed, Kept, Given, Noted, Ended}
use Rattle.auth_events.specs.declared.journal.Gift.{Gift}
use Rattle.auth_events.specs.declared.journal.Entry.{Entry}
use Rattle.auth_events.specs.Tables.{Tables}
use Rattle.auth_events.specs.Fresh.{StepTold}
use Rattle.auth_events.specs.Fresh.StepTold.{DidCall}

abbrev pub row : ℕ → Call → BookReply → Entry
row r call reply = record { caller = r; request = r; call = call; reply = reply }

abbrev pub gift : ℕ → ℕ → Gift
gift space ordinal = record { space = space; ordinal = ordinal }

abbrev pub origin_of : ℕ → Origin
origin_of host = record { host = host ∷ []; port = 80 }

-- a GET of a path of a host in a partition, each of the two with a name of one letter
abbrev pub request_in : ℕ → ℕ → List ℕ → Request
request_in partition host path = record { method = Get; partition = partition ∷ []; place = record { text = []; origin = origin_of host; path = path; query = None; identity = None }; proxy = None }

abbrev pub request_of : ℕ → Request
request_of host = request_in 109 host (47 ∷ [])

abbrev pub site_in : ℕ → ℕ → Site
site_in partition host = record { partition = partition ∷ []; target = Server; origin = origin_of host }

abbrev pub basic_in : ℕ → ℕ → ProtectionSpace
basic_in partition host = record { site = site_in partition host; scheme = Basic; realm = 120 ∷ [] }

abbrev pub digest_space : ℕ → ProtectionSpace
digest_space realm = record { site = site_in 109 65; scheme = Digest; realm = realm ∷ [] }

abbrev pub somebody : Login
somebody = record { user = 117 ∷ []; password = 112 ∷ [] }

abbrev pub roster_of : List Request → Roster
roster_of requests = record { requests = requests; allowed = [] }

-- names of spaces without terms, and of some texts
abbrev pub names_of : List ProtectionSpace → ℕ → Tables
names_of spaces texts = record { spaces = spaces; terms = []; nonces = []; texts = replicate texts somebody }

-- so many requests of one URL
abbrev pub visitors : ℕ → Roster
visitors n = roster_of (replicate n (request_of 65))

-- the one Basic space of that URL, and so many texts
abbrev pub one_space : ℕ → Tables
one_space texts = names_of (basic_in 109 65 ∷ []) texts

-- a request begins, with nothing ready for it
abbrev pub starts : ℕ → List Entry
starts r = row r Begin Begun ∷ row r (Preempt Server) Nothing ∷ []

-- a request leads a prompt and is given a gift
abbrev pub led : ℕ → ℕ → ℕ → ℕ → ℕ → List Entry
led r space prompt ordinal evicted = row r (Select space 0) (Lead prompt ordinal) ∷ row r (Answer prompt prompt 0) (Given (gift space ordinal) evicted) ∷ []

-- a gift that was removed and given anew isn't removed by a rejection of the old one

abbrev pub old_gift : List Entry
old_gift =
    starts 1 ++ starts 2 ++ led 1 1 1 1 0 ++ row 2 (Select 1 0) (Cached (gift 1 1)) ∷ row 1 (Reject 1 1) Removed ∷ led 1 1 2 2 0
    ++ row 2 (Reject 1 1) (Kept 2) ∷ row 2 (Select 1 0) (Cached (gift 1 2)) ∷ []

-- two that follow a prompt take its one end, by an answer or a loss

abbrev pub shared_prompt : Call → BookReply → List Entry
shared_prompt settle end =
    starts 1 ++ starts 2 ++ starts 3
    ++ row 1 (Select 1 0) (Lead 1 1) ∷ row 2 (Select 1 0) (Follow 1) ∷ row 3 (Select 1 0) (Follow 1) ∷ row 1 settle end ∷ row 3 (Take 1) end ∷ row 2 (Take 1) end ∷ []

-- of 32 live spaces of a partition the one goes that was not touched for longest, and not the one that was given first

-- 32 requests lead in a space of their own, one more takes the gift of the first, and another leads in a 33rd; all their numbers come behind those of some others
abbrev pub filling : ℕ → ℕ → List Entry
filling others evicted =
    flat_map (λ k. starts k ++ led k k k 1 0) (range_with_len (others + 1) 32)
    ++ starts (others + 33) ++ row (others + 33) (Select (others + 1) 0) (Cached (gift (others + 1) 1)) ∷ starts (others + 34) ++ led (others + 34) (others + 33) (others + 33) 1 evicted

abbrev pub full_cache_roster : Roster
full_cache_roster = roster_of (map request_of (range_with_len 65 32 ++ 65 ∷ 97 ∷ 66 ∷ []))

abbrev pub full_cache_names : Tables
full_cache_names = names_of (map (basic_in 109) (range_with_len 65 33)) 33

abbrev pub full_cache : List Entry
full_cache = filling 0 2

-- the next request of the space that went leads a prompt again
abbrev pub full_cache_again : List Entry
full_cache_again = full_cache ++ starts 35 ++ row 35 (Select 2 0) (Lead 34 2) ∷ []

-- a space of another partition that was given before all of them stays, whatever is evicted

abbrev pub full_cache_beside_roster : Roster
full_cache_beside_roster = roster_of (request_in 113 65 (47 ∷ []) ∷ full_cache_roster.requests)

abbrev pub full_cache_beside_names : Tables
full_cache_beside_names = names_of (basic_in 113 65 ∷ full_cache_names.spaces) 34

abbrev pub full_cache_beside : List Entry
full_cache_beside = starts 1 ++ led 1 1 1 1 0 ++ filling 1 3 ++ starts 36 ++ row 36 (Select 3 0) (Lead 35 2) ∷ []

-- with spaces of odd numbers in one partition and of even ones in another nobody is evicted

abbrev pub side_of : ℕ → ℕ
side_of zero = 113
side_of (suc zero) = 112
side_of (suc (suc k)) = side_of k

abbrev pub two_sides_roster : Roster
two_sides_roster = roster_of (map (λ k. request_in (side_of k) (64 + k) (47 ∷ [])) (range_with_len 1 32 ++ 1 ∷ 33 ∷ []))

abbrev pub two_sides_names : Tables
two_sides_names = names_of (map (λ k. basic_in (side_of k) (64 + k)) (range_with_len 1 33)) 33

abbrev pub two_sides : List Entry
two_sides = filling 0 0

-- a directory covers the paths below it: `/docs/` that of `/docs/b/c`, and not `/docsx` or `/`

abbrev pub directories_roster : Roster
directories_roster = roster_of (map (request_in 109 65) ((47 ∷ 100 ∷ 47 ∷ 97 ∷ []) ∷ (47 ∷ 100 ∷ 47 ∷ 98 ∷ 47 ∷ 99 ∷ []) ∷ (47 ∷ 100 ∷ 120 ∷ []) ∷ (47 ∷ []) ∷ []))

abbrev pub directories : List Entry
directories =
    starts 1 ++ led 1 1 1 1 0 ++ row 1 (Note (gift 1 1)) Noted ∷ row 1 End Ended ∷ row 2 Begin Begun ∷ row 2 (Preempt Server) (Ready (gift 1 1) 0 0) ∷ starts 3 ++ starts 4

-- one URL in two partitions: two spaces, two prompts

abbrev pub partitions_roster : Roster
partitions_roster = roster_of (request_in 112 65 (47 ∷ []) ∷ request_in 113 65 (47 ∷ []) ∷ [])

abbrev pub partitions_names : Tables
partitions_names = names_of (basic_in 112 65 ∷ basic_in 113 65 ∷ []) 2

abbrev pub partitions : List Entry
partitions = starts 1 ++ led 1 1 1 1 0 ++ starts 2 ++ led 2 2 2 1 0

-- a server that always sends one nonce, which goes on in another realm of its site: counts 1 to 4, in epochs that rise

abbrev pub counts_names : Tables
counts_names =
    record {
      spaces = map digest_space (1 ∷ 2 ∷ []);
      terms = map (λ realm. record { space = realm; terms = record { algorithm = Md5; said = false; realm = realm ∷ []; nonce = 110 ∷ []; opaque = None; qop = Auth; userhash = false }; nonce = 1 }) (1 ∷ 2 ∷ []);
      nonces = record { site = site_in 109 65; text = 110 ∷ [] } ∷ [];
      texts = replicate 4 somebody;
    }

-- a request leads a prompt in a Digest space and is given a gift
abbrev pub led_digest : ℕ → ℕ → ℕ → List Entry
led_digest space prompt ordinal = row 1 (Select space space) (Lead prompt ordinal) ∷ row 1 (Answer prompt prompt space) (Given (gift space ordinal) 0) ∷ []

abbrev pub counts : List Entry
counts =
    starts 1 ++ led_digest 1 1 1 ++ row 1 (Reject 1 1) Removed ∷ led_digest 1 2 2 ++ row 1 (Reject 1 2) Removed ∷ led_digest 1 3 3
    ++ row 1 (Reject 1 3) Removed ∷ led_digest 2 4 1

-- the request's trace: its calls, with these draws of the nonce behind its four gifts
abbrev pub drawing : List StepTold → List (List StepTold)
drawing draws = (DidCall ∷ behind draws) ∷ []
  where
    behind : List StepTold → List StepTold
    behind [] = []
    behind (draw ∷ rest) = DidCall ∷ DidCall ∷ DidCall ∷ draw ∷ behind rest
