-- Answers that are found by their space: keys, one more run, and the search for an ordinal.
use Rattle.std.proofs.Common.{◌≡◌, ◌∙◌, ℕ, zero, suc, ◌+◌, ◌-◌, ◌<◌, ◌≤◌, ◌==◌, length, Bool, true, false, ◌&&◌, List, [], ◌∷◌, ◌++◌, append-nil, refl, sym, ap, ap₂, subst, arith, take, drop, get_or, replicate, Some, None, inl, inr, slice_get, option_map, option_and_then, unwrap_or, cond, if◌then◌else◌, bytes_eq, Ok, Err, OnOk}
use Rattle.std.proofs.lemmas.Bool.{cases_lt}
use Rattle.std.proofs.lemmas.Grind.{common_steps, flat_map-append, fold-append}
use Rattle.std.proofs.lemmas.List.{length-append, length-replicate, take_more, take_all, take-append-le, take-append-drop, drop_more}
use Rattle.std.proofs.lemmas.Option.{slice_get_within, get_or_from_slice_get, slice_get_past}
use Rattle.std.proofs.lemmas.List.Elements.{filter-append}
use Rattle.std.proofs.lemmas.Map.Text.{is_eq-slice_cmp}
use Rattle.std.proofs.lemmas.Slice.Eq.{bytes_eq-Decides}
use Rattle.std.specs.BTreeMap.{BTreeMap, get, Updates}
use Rattle.std.specs.List.{flat_map, AllWithin}
use Rattle.std.specs.List.Sorted.{IsNonDecreasingBy}
use Rattle.std.specs.Ordering.{nat_cmp, ordering_then, is_eq}
use Rattle.std.specs.declared.cmp.Ordering.{Ordering}
use Rattle.std.specs.declared.cmp.Ordering.TheVariants.{Less, Equal, Greater}
use Rattle.std.specs.declared.option.Option.{Option}
use Rattle.std.specs.declared.result.Result.{Result}
use Rattle.auth_text.specs.Login.{Login}
use Rattle.auth_text.specs.declared.items.NoMemory.{NoMemory}
use Rattle.spaces.specs.ProtectionSpaces.{ProtectionSpace}
use Rattle.spaces.specs.Sites.{same_space, same_target, same_scheme, numbered}
use Rattle.spaces.specs.declared.site.Target.{Target}
use Rattle.spaces.specs.declared.site.Target.TheVariants.{Server, Proxy, Socks}
use Rattle.spaces.specs.declared.space.Scheme.{Scheme}
use Rattle.spaces.specs.declared.space.Scheme.TheVariants.{Basic, Digest, Negotiate, Password}
use Rattle.link_trait.specs.declared.answers.Repeated.{Repeated}
use Rattle.link_trait.specs.declared.space_key.SpaceKey.{SpaceKey}
use Rattle.link_trait.specs.declared.table.Run.{Run}
use Rattle.link_trait.specs.Prompts.{answers_of}
use Rattle.link_trait.specs.Repeated.{times, flat}
use Rattle.link_trait.specs.Index.{target_number, scheme_number, IsKeyOf, key_cmp, runs_at, at_place, at_runs, nth_answer, end_of, AreEnds, IsAdded, IsIndexOf}
use Rattle.link_trait.proofs.AnswerLemmas.{at_repeated}

-- two keys are equal in order where their spaces are the same

is_eq-then : (x y : Ordering) → is_eq (ordering_then x y) ≡ (is_eq x && is_eq y)
is_eq-then Less y = refl
is_eq-then Equal y = refl
is_eq-then Greater y = refl

is_eq-nat_cmp : (a b : ℕ) → is_eq (nat_cmp a b) ≡ (a == b)
is_eq-nat_cmp a b = grind arith

targets : (a b : Target) → (target_number a == target_number b) ≡ same_target a b
targets Server Server = refl
targets Server Proxy = refl
targets Server Socks = refl
targets Proxy Server = refl
targets Proxy Proxy = refl
targets Proxy Socks = refl
targets Socks Server = refl
targets Socks Proxy = refl
targets Socks Socks = refl

schemes : (a b : Scheme) → (scheme_number a == scheme_number b) ≡ same_scheme a b
schemes Basic Basic = refl
schemes Basic Digest = refl
schemes Basic Negotiate = refl
schemes Basic Password = refl
schemes Digest Basic = refl
schemes Digest Digest = refl
schemes Digest Negotiate = refl
schemes Digest Password = refl
schemes Negotiate Basic = refl
schemes Negotiate Digest = refl
schemes Negotiate Negotiate = refl
schemes Negotiate Password = refl
schemes Password Basic = refl
schemes Password Digest = refl
schemes Password Negotiate = refl
schemes Password Password = refl

grouped : (p t h o s r : Bool) → (p && (t && (h && (o && (s && r))))) ≡ ((((p && t) && (h && o)) && s) && r)
grouped false t h o s r = refl
grouped true false h o s r = refl
grouped true true false o s r = refl
grouped true true true false s r = refl
grouped true true true true false r = refl
grouped true true true true true r = refl

same_parts : (a b : SpaceKey) → is_eq (key_cmp a b) ≡ (bytes_eq a.partition.items b.partition.items && ((a.target == b.target)
    && (bytes_eq a.host.items b.host.items && ((a.port == b.port) && ((a.scheme == b.scheme) && bytes_eq a.realm.items b.realm.items)))))
same_parts a b =
    is_eq-then _ _ ∙ ap₂ ◌&&◌ (is_eq-slice_cmp a.partition.items b.partition.items)
    (is_eq-then _ _ ∙ ap₂ ◌&&◌ (is_eq-nat_cmp a.target b.target)
    (is_eq-then _ _ ∙ ap₂ ◌&&◌ (is_eq-slice_cmp a.host.items b.host.items)
    (is_eq-then _ _ ∙ ap₂ ◌&&◌ (is_eq-nat_cmp a.port b.port)
    (is_eq-then _ _ ∙ ap₂ ◌&&◌ (is_eq-nat_cmp a.scheme b.scheme) (is_eq-slice_cmp a.realm.items b.realm.items)))))

pub same_key : (a b : SpaceKey) (s t : ProtectionSpace) → IsKeyOf a s → IsKeyOf b t → is_eq (key_cmp a b) ≡ same_space s t
same_key a b s t of_s of_t =
    let (partition, target, host, port, scheme, realm) = of_s in
    let (partition', target', host', port', scheme', realm') = of_t in
    same_parts a b
    ∙ ap₂ ◌&&◌ (ap₂ bytes_eq partition partition')
    (ap₂ ◌&&◌ (ap₂ ◌==◌ target target' ∙ targets s.site.target t.site.target)
    (ap₂ ◌&&◌ (ap₂ bytes_eq host host')
    (ap₂ ◌&&◌ (ap₂ ◌==◌ port port')
    (ap₂ ◌&&◌ (ap₂ ◌==◌ scheme scheme' ∙ schemes s.scheme t.scheme) (ap₂ bytes_eq realm realm')))))
    ∙ grouped (bytes_eq s.site.partition t.site.partition) (same_target s.site.target t.site.target)
    (bytes_eq s.site.origin.host t.site.origin.host) (s.site.origin.port == t.site.origin.port)
    (same_scheme s.scheme t.scheme) (bytes_eq s.realm t.realm)

-- a run that is written behind those of a key

at_key : (here : Bool) (runs : List Run) (before : Option (List Run))
    → unwrap_or (cond here (Some runs) before) [] ≡ (if here then runs else unwrap_or before [])
at_key true runs before = refl
at_key false runs before = refl

pub run_added : (result : Result (Unit {0}) NoMemory) (old new : BTreeMap SpaceKey (List Run)) (key : SpaceKey) (place count : ℕ) (had runs : List Run)
    → had ≡ runs_at old key → Updates key_cmp old new key (Some runs)
    → OnOk result (runs ≡ had ++ record { place = place; end = end_of had + count } ∷ []) → OnOk result (IsAdded old new key place count)
run_added (Ok unit) old new key place count had runs is updates more = λ q.
    ap (λ found. unwrap_or found []) (updates.0 q) ∙ at_key (is_eq (key_cmp key q)) runs (get key_cmp old q)
    ∙ ap (λ l. if is_eq (key_cmp key q) then l else runs_at old q) (more ∙ ap (λ l. l ++ record { place = place; end = end_of l + count } ∷ []) is)
run_added (Err e) old new key place count had runs is updates more = tt

-- a key that is equal in order has the same space

both : (x y : Bool) → (x && y) ≡ true → (x ≡ true) × (y ≡ true)
both true y is = (refl, is)
both false y is = cc

same_number : (a b : ℕ) → (a == b) ≡ true → a ≡ b
same_number a b is = grind (arith, is)

key_alike : (a b : SpaceKey) (space : ProtectionSpace) → is_eq (key_cmp a b) ≡ true → IsKeyOf b space → IsKeyOf a space
key_alike a b space is of_b =
    let (partition, more) = both _ _ (sym (same_parts a b) ∙ is) in
    let (target, more) = both _ _ more in
    let (host, more) = both _ _ more in
    let (port, more) = both _ _ more in
    let (scheme, realm) = both _ _ more in
    let (partition', target', host', port', scheme', realm') = of_b in (
      (bytes_eq-Decides a.partition.items b.partition.items).0 partition ∙ partition',
      same_number a.target b.target target ∙ target',
      (bytes_eq-Decides a.host.items b.host.items).0 host ∙ host',
      same_number a.port b.port port ∙ port',
      same_number a.scheme b.scheme scheme ∙ scheme',
      (bytes_eq-Decides a.realm.items b.realm.items).0 realm ∙ realm',
    )

-- the answers of a space, of a repeated answer

of_space : (n : ℕ) (answer : ProtectionSpace × Option Login) (space : ProtectionSpace) (same : Bool) → same_space answer.0 space ≡ same
    → answers_of (replicate n answer) space ≡ (if same then replicate n answer else [])
of_space zero answer space true is = refl
of_space zero answer space false is = refl
of_space (suc n) answer space true is = rw is (ap (λ l. answer ∷ l) (of_space n answer space true is))
of_space (suc n) answer space false is = rw is (of_space n answer space false is)

here : (all : List Repeated) (place : ℕ) (it : Repeated) → slice_get all place ≡ Some it → at_place all place ≡ replicate it.count it.answer
here all place it at = ap (λ (found : Option Repeated). unwrap_or (option_map (λ (x : Repeated). times x.count x.answer) found) []) at

taken_at : {A : Type 0} (xs : List A) (i : ℕ) (x : A) → slice_get xs i ≡ Some x → take (i + 1) xs ≡ take i xs ++ x ∷ []
taken_at xs i x at = take_more xs i x (slice_get_within xs i x at) ∙ ap (λ y. take i xs ++ y ∷ []) (get_or_from_slice_get xs i x x at)

answers_more : (all : List Repeated) (place : ℕ) (it : Repeated) (space : ProtectionSpace) → slice_get all place ≡ Some it
    → answers_of (flat (take (place + 1) all)) space
    ≡ answers_of (flat (take place all)) space ++ (if same_space it.answer.0 space then replicate it.count it.answer else [])
answers_more all place it space at =
    let whole : flat (take (place + 1) all) ≡ flat (take place all) ++ replicate it.count it.answer =
    ap flat (taken_at all place it at) ∙ flat_map-append (λ (x : Repeated). times x.count x.answer) (take place all) (it ∷ [])
    ∙ ap (λ l. flat (take place all) ++ l) (append-nil (replicate it.count it.answer)) in
    ap (λ l. answers_of l space) whole
    ∙ filter-append (λ (x : ProtectionSpace × Option Login). same_space x.0 space) (flat (take place all)) (replicate it.count it.answer)
    ∙ ap (λ l. answers_of (flat (take place all)) space ++ l) (of_space it.count it.answer space (same_space it.answer.0 space) refl)

-- one more run

runs_more : (all : List Repeated) (runs : List Run) (run : Run) → at_runs all (runs ++ run ∷ []) ≡ at_runs all runs ++ at_place all run.place
runs_more all runs run =
    flat_map-append (λ (x : Run). at_place all x.place) runs (run ∷ []) ∙ ap (λ l. at_runs all runs ++ l) (append-nil (at_place all run.place))

end_more : (runs : List Run) (run : Run) → end_of (runs ++ run ∷ []) ≡ run.end
end_more runs run = fold-append (λ (end : ℕ) (x : Run). x.end) 0 runs (run ∷ [])

ends_more : (all : List Repeated) (runs : List Run) (run : Run) → run.end ≡ end_of runs + length (at_place all run.place)
    → AreEnds all runs → AreEnds all (runs ++ run ∷ [])
ends_more all runs run is ends i = elim (cases_lt (length runs) i) [
  | inl past ↦
      let whole : take i (runs ++ run ∷ []) ≡ runs ++ run ∷ [] = take_all i (runs ++ run ∷ []) (grind (arith, common_steps, past)) in
      let all_runs : end_of runs ≡ length (at_runs all runs) =
      ap end_of (sym (take_all (length runs) runs (omega arith))) ∙ ends (length runs) ∙ ap (λ l. length (at_runs all l)) (take_all (length runs) runs (omega arith)) in
      ap end_of whole ∙ end_more runs run ∙ is ∙ ap (λ n. n + length (at_place all run.place)) all_runs
      ∙ sym (length-append (at_runs all runs) (at_place all run.place))
      ∙ ap length (sym (runs_more all runs run)) ∙ ap (λ l. length (at_runs all l)) (sym whole)
  | inr within ↦
      let same = take-append-le i runs (run ∷ []) within in
      ap end_of same ∙ ends i ∙ ap (λ l. length (at_runs all l)) (sym same)
]

-- one more answer in the index

noted : (here : Bool) (all : List Repeated) (place : ℕ) (it : Repeated) (had other : List Run) (before : List (ProtectionSpace × Option Login))
    → slice_get all place ≡ Some it → (here ≡ true → (at_runs all had ≡ before) × AreEnds all had) → (at_runs all other ≡ before) × AreEnds all other
    → (at_runs all (if here then had ++ record { place = place; end = end_of had + it.count } ∷ [] else other) ≡ before ++ (if here then replicate it.count it.answer else []))
    × AreEnds all (if here then had ++ record { place = place; end = end_of had + it.count } ∷ [] else other)
noted true all place it had other before at if_here there =
    let (runs, ends) = if_here refl in
    let run : Run = record { place = place; end = end_of had + it.count } in
    let answers = here all place it at in (
      runs_more all had run ∙ ap₂ ◌++◌ runs answers,
      ends_more all had run (ap (λ n. end_of had + n) (sym (ap length answers ∙ length-replicate it.count it.answer))) ends,
    )
noted false all place it had other before at if_here there = (there.0 ∙ sym (append-nil before), there.1)

pub index_more : (old new : BTreeMap SpaceKey (List Run)) (all : List Repeated) (place : ℕ) (it : Repeated) (key : SpaceKey) → slice_get all place ≡ Some it
    → IsKeyOf key it.answer.0 → IsAdded old new key place it.count
    → IsIndexOf old all (take place all) → IsIndexOf new all (take (place + 1) all)
index_more old new all place it key at of_it added listed q space of_q =
    let same = same_key key q it.answer.0 space of_it of_q in
    let before = answers_of (flat (take place all)) space in
    let (runs, ends) = noted (is_eq (key_cmp key q)) all place it (runs_at old key) (runs_at old q) before at
    (λ is. listed key space (key_alike key q space is of_q)) (listed q space of_q) in (
      ap (at_runs all) (added q) ∙ runs
          ∙ ap (λ b. before ++ (if b then replicate it.count it.answer else [])) same ∙ sym (answers_more all place it space at),
      subst (AreEnds all) (sym (added q)) ends,
    )

-- the run in which an ordinal falls

listed_more : {A B : Type 0} (f : A → List B) (xs : List A) (i j : ℕ) → i ≤ j → length (flat_map f (take i xs)) ≤ length (flat_map f (take j xs))
listed_more f xs zero j up = omega arith
listed_more f [] (suc i) zero up = absurd (omega (arith, up))
listed_more f [] (suc i) (suc j) up = omega arith
listed_more f (x ∷ xs) (suc i) zero up = absurd (omega (arith, up))
listed_more f (x ∷ xs) (suc i) (suc j) up =
    let more = listed_more f xs i j (omega (arith, up)) in
    let here = length-append (f x) (flat_map f (take i xs)) in
    let there = length-append (f x) (flat_map f (take j xs)) in
    omega (arith, more, here, there)

behind : {A : Type 0} (xs ys : List A) (k : ℕ) → length xs ≤ k → slice_get (xs ++ ys) k ≡ slice_get ys (k - length xs)
behind [] ys k past = ap (slice_get ys) (omega arith)
behind (x ∷ xs) ys zero past = absurd (omega (arith, past))
behind (x ∷ xs) ys (suc k) past = behind xs ys k (omega (arith, past)) ∙ ap (slice_get ys) (omega arith)

-- where a run ends
run_end : (all : List Repeated) (runs : List Run) (i : ℕ) (d : Run) → AreEnds all runs → i < length runs
    → (get_or runs i d).end ≡ length (at_runs all (take (i + 1) runs))
run_end all runs i d ends within =
    let one = take_more runs i d within in
    sym (ap end_of one ∙ end_more (take i runs) (get_or runs i d)) ∙ ends (i + 1)

pub ends_rise : (all : List Repeated) (runs : List Run) → AreEnds all runs → IsNonDecreasingBy (λ run. run.end) runs
ends_rise all runs ends i j d up within =
    let low = run_end all runs i d ends (omega (arith, up, within)) in
    let high = run_end all runs j d ends within in
    let more = listed_more (λ (x : Run). at_place all x.place) runs (i + 1) (j + 1) (omega (arith, up)) in
    omega (arith, low, high, more)

numbered_is : {A : Type 0} (xs : List A) (n at : ℕ) → n ≡ at + 1 → numbered xs n ≡ slice_get xs at
numbered_is xs n at is = grind (arith, common_steps, is)

-- the ordinals count from 1
pub nth_is : (answers : List (ProtectionSpace × Option Login)) (n at : ℕ) → n ≡ at + 1
    → nth_answer answers n ≡ option_and_then (λ answer. answer.1) (slice_get answers at)
nth_is answers n at is = ap (option_and_then (λ (x : ProtectionSpace × Option Login). x.1)) (numbered_is answers n at is)

-- the runs that end at most at a number have at most so many answers
before_ends : (all : List Repeated) (runs : List Run) (i at : ℕ) → AreEnds all runs → i ≤ length runs
    → AllWithin (λ run. run.end ≤ at) runs 0 i → length (at_runs all (take i runs)) ≤ at
before_ends all runs zero at ends within low = omega arith
before_ends all runs (suc i) at ends within low =
    let d : Run = record { place = 0; end = 0 } in
    let last = run_end all runs i d ends (omega (arith, within)) in
    let next : i + 1 ≡ suc i = omega arith in
    omega (arith, last, low i d (omega arith) (omega arith), ap (λ n. length (at_runs all (take n runs))) next)

-- a place below the number of its repeats has its answer
placed : (all : List Repeated) (place : ℕ) (found : Option Repeated) (at : ℕ) (rest : List (ProtectionSpace × Option Login)) → slice_get all place ≡ found
    → at < length (at_place all place) → option_and_then (λ answer. answer.1) (slice_get (at_place all place ++ rest) at) ≡ option_and_then (λ it. it.answer.1) found
placed all place (Some it) at rest is below =
    let answers = here all place it is in
    let count = ap length answers ∙ length-replicate it.count it.answer in
    ap (λ l. option_and_then (λ (x : ProtectionSpace × Option Login). x.1) (slice_get (l ++ rest) at)) answers
    ∙ ap (option_and_then (λ (x : ProtectionSpace × Option Login). x.1)) (at_repeated it.count at it.answer rest (omega (arith, below, count)))
placed all place None at rest is below =
    let none = ap (λ (found : Option Repeated). length (unwrap_or (option_map (λ (x : Repeated). times x.count x.answer) found) [])) is in
    absurd (omega (arith, below, none))

-- past the last run there is no answer
pub past_runs : (all : List Repeated) (runs : List Run) (i at : ℕ) → AreEnds all runs → i ≤ length runs → length runs ≤ i
    → AllWithin (λ run. run.end ≤ at) runs 0 i → option_and_then (λ answer. answer.1) (slice_get (at_runs all runs) at) ≡ None
past_runs all runs i at ends within past low =
    let most = before_ends all runs i at ends within low in
    let none = slice_get_past (at_runs all runs) at (omega (arith, most, ap (λ l. length (at_runs all l)) (take_all i runs past))) in
    ap (option_and_then (λ (x : ProtectionSpace × Option Login). x.1)) none

-- the first run that ends behind a number has the answer of the next ordinal
pub in_run : (all : List Repeated) (runs : List Run) (i at : ℕ) (run : Run) (found : Option Repeated) → AreEnds all runs → slice_get runs i ≡ Some run
    → slice_get all run.place ≡ found → AllWithin (λ run. run.end ≤ at) runs 0 i → at < run.end
    → option_and_then (λ answer. answer.1) (slice_get (at_runs all runs) at) ≡ option_and_then (λ it. it.answer.1) found
in_run all runs i at run found ends here_run here_it low high =
    let within = slice_get_within runs i run here_run in
    let before = at_runs all (take i runs) in
    let rest = at_runs all (drop (i + 1) runs) in
    let most = before_ends all runs i at ends (omega (arith, within)) low in
    let is = get_or_from_slice_get runs i run run here_run in
    let until : run.end ≡ length before + length (at_place all run.place) =
    ap (λ x. x.end) (sym is) ∙ run_end all runs i run ends within ∙ ap (λ l. length (at_runs all l)) (taken_at runs i run here_run)
    ∙ ap length (runs_more all (take i runs) run) ∙ length-append before (at_place all run.place) in
    let split : at_runs all runs ≡ before ++ (at_place all run.place ++ rest) =
    ap (at_runs all) (sym (take-append-drop i runs)) ∙ flat_map-append (λ (x : Run). at_place all x.place) (take i runs) (drop i runs)
    ∙ ap (λ l. before ++ at_runs all l) (drop_more runs i run within ∙ ap (λ x. x ∷ drop (i + 1) runs) is) in
    ap (λ l. option_and_then (λ (x : ProtectionSpace × Option Login). x.1) (slice_get l at)) split
    ∙ ap (option_and_then (λ (x : ProtectionSpace × Option Login). x.1)) (behind before (at_place all run.place ++ rest) at most)
    ∙ placed all run.place found (at - length before) rest here_it (omega (arith, until, high, most))
