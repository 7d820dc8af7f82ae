-- Answers that are found by their space: beside the list stand, for each space, the places of its answers.
use Rattle.std.specs.Prelude.{ℕ, ◌≡◌, ◌+◌, List, [], ◌∷◌, ◌++◌, length, take, fold, slice_get, option_map, option_and_then, unwrap_or, if◌then◌else◌}
use Rattle.std.specs.List.{flat_map}
use Rattle.std.specs.BTreeMap.{BTreeMap, get}
use Rattle.std.specs.Cmp.Lexicographic.{slice_cmp}
use Rattle.std.specs.Ordering.{nat_cmp, ordering_then, is_eq}
use Rattle.std.specs.declared.cmp.Ordering.{Ordering}
use Rattle.std.specs.declared.option.Option.{Option}
use Rattle.auth_text.specs.Login.{Login}
use Rattle.spaces.specs.ProtectionSpaces.{ProtectionSpace}
use Rattle.spaces.specs.Sites.{numbered}
use Rattle.spaces.specs.declared.site.Target.{Target}
use Rattle.spaces.specs.declared.site.Target.TheVariants.{Server, Proxy, Socks}
use Rattle.spaces.specs.declared.space.Scheme.{Scheme}
use Rattle.spaces.specs.declared.space.Scheme.TheVariants.{Basic, Digest, Negotiate, Password}
use Rattle.link_trait.specs.declared.answers.Repeated.{Repeated}
use Rattle.link_trait.specs.declared.space_key.SpaceKey.{SpaceKey}
use Rattle.link_trait.specs.declared.table.Run.{Run}
use Rattle.link_trait.specs.Prompts.{answers_of}
use Rattle.link_trait.specs.Repeated.{times, flat}

-- a number for each target
abbrev pub target_number : Target → ℕ
target_number Server = 0
target_number Proxy = 1
target_number Socks = 2

-- a number for each scheme
abbrev pub scheme_number : Scheme → ℕ
scheme_number Basic = 0
scheme_number Digest = 1
scheme_number Negotiate = 2
scheme_number Password = 3

-- the key has the parts of the space
abbrev pub IsKeyOf : SpaceKey → ProtectionSpace → Type 0
IsKeyOf key space = (key.partition.items ≡ space.site.partition) × (key.target ≡ target_number space.site.target)
    × (key.host.items ≡ space.site.origin.host) × (key.port ≡ space.site.origin.port)
    × (key.scheme ≡ scheme_number space.scheme) × (key.realm.items ≡ space.realm)

-- keys in order, part by part
abbrev pub key_cmp : SpaceKey → SpaceKey → Ordering
key_cmp a b = ordering_then (slice_cmp nat_cmp a.partition.items b.partition.items)
    (ordering_then (nat_cmp a.target b.target) (ordering_then (slice_cmp nat_cmp a.host.items b.host.items)
    (ordering_then (nat_cmp a.port b.port) (ordering_then (nat_cmp a.scheme b.scheme) (slice_cmp nat_cmp a.realm.items b.realm.items)))))

-- the runs that are kept at a key
abbrev pub runs_at : BTreeMap SpaceKey (List Run) → SpaceKey → List Run
runs_at index key = unwrap_or (get key_cmp index key) []

-- the answer at a place, as often as it is given; past the end none
abbrev pub at_place : List Repeated → ℕ → List (ProtectionSpace × Option Login)
at_place answers place = unwrap_or (option_map (λ it. times it.count it.answer) (slice_get answers place)) []

-- the answers of runs, one by one
abbrev pub at_runs : List Repeated → List Run → List (ProtectionSpace × Option Login)
at_runs answers runs = flat_map (λ run. at_place answers run.place) runs

-- the nth of a space's answers; none is a cancel
abbrev pub nth_answer : List (ProtectionSpace × Option Login) → ℕ → Option Login
nth_answer answers n = option_and_then (λ answer. answer.1) (numbered answers n)

-- where the last run ends
abbrev pub end_of : List Run → ℕ
end_of runs = fold (λ end run. run.end) 0 runs

-- each run ends at the number of the answers up to its own
abbrev pub AreEnds : List Repeated → List Run → Type 0
AreEnds answers runs = (i : ℕ) → end_of (take i runs) ≡ length (at_runs answers (take i runs))

-- behind the runs at the key stands one more, of so many answers, and at other keys nothing changed
abbrev pub IsAdded : BTreeMap SpaceKey (List Run) → BTreeMap SpaceKey (List Run) → SpaceKey → ℕ → ℕ → Type 0
IsAdded old new key place count = (q : SpaceKey) → runs_at new q
    ≡ (if is_eq (key_cmp key q) then runs_at old key ++ record { place = place; end = end_of (runs_at old key) + count } ∷ [] else runs_at old q)

-- at each space's key stand, of all answers, the runs of the space's answers in the list
abbrev pub IsIndexOf : BTreeMap SpaceKey (List Run) → List Repeated → List Repeated → Type 0
IsIndexOf index all answers = (key : SpaceKey) (space : ProtectionSpace) → IsKeyOf key space
    → (at_runs all (runs_at index key) ≡ answers_of (flat answers) space) × AreEnds all (runs_at index key)
