-- Behind one request that was served alone, whatever failed in it, the next one can be.
use Rattle.std.proofs.Common.{◌≡◌, ◌⊎◌, inl, inr, ℕ, zero, suc, ◌+◌, ◌*◌, ◌^◌, ◌≤◌, ◌<◌, ◌==◌, Bool, true, false, cond, List, [], ◌∷◌, ◌++◌, length, replicate, reverse, Option, Some, None, option_map, unwrap_or, refl, sym, ap, ◌∙◌, subst, arith, if◌then◌else◌}
use Rattle.std.specs.Prelude.{slice_get}
use Rattle.std.proofs.lemmas.Bool.{cases_lt}
use Rattle.spaces.specs.declared.roster.Request.{Request}
use Rattle.spaces.specs.declared.roster.Roster.{Roster}
use Rattle.spaces.specs.declared.site.Target.{Target}
use Rattle.spaces.specs.Sites.{numbered}
use Rattle.auth_events.specs.declared.journal.BookReply.TheVariants.{Lost}
use Rattle.auth_events.specs.declared.journal.Call.TheVariants.{Lose}
use Rattle.auth_events.specs.declared.journal.Loss.TheVariants.{Memory}
use Rattle.auth_events.specs.declared.journal.Drawn.{Drawn as Word}
use Rattle.auth_events.specs.declared.journal.Entry.{Entry}
use Rattle.auth_events.specs.declared.told.Told.{Told}
use Rattle.auth_events.specs.Book.{own}
use Rattle.auth_events.specs.Tables.{Tables}
use Rattle.auth_events.specs.Told.{past}
use Rattle.auth_events.proofs.Numbers.{numbered_suc}
use Rattle.link_trait.specs.Links.{IsUndialed}
use Rattle.link_trait.specs.declared.dialer.Dial.{Dial}
use Rattle.link_trait.specs.declared.dialer.Traffic.{Traffic}
use Rattle.link_trait.specs.declared.links.LinkName.{LinkName}
use Rattle.auth_runs.specs.declared.event.Event.{Event}
use Rattle.auth_runs.specs.declared.event.Event.TheVariants.{Called, Drew}
use Rattle.plain_book.specs.Words.{draws_of, unused}
use Rattle.trace_rule.specs.Counting.{draws}
use Rattle.trace_rule.specs.Settings.{Setting, setting_of}
use Rattle.trace_rule.specs.Traces.{IsCut, IsRun, with_loss}
use Rattle.trace_rule.proofs.DrawCount.{draws_bound}
use Rattle.serving_laws.specs.Alone.{entries_of}
use Rattle.serving_laws.specs.Draws.{times_drawn}
use Rattle.serving_laws.specs.Service.{IsServedAlone}
use Rattle.lone_laws.specs.Laws.{IsReady}
use Rattle.lone_laws.proofs.Behind.{undrawn_words}
use Rattle.lone_caller.proofs.Links.{undialed_still}
use Rattle.auth_controller.specs.Service.{IsCarriedOut}

-- ENTRIES

-- the first request's calls are none of the second's
own_second : (events : List Event) (before : List Entry) → own before 2 ≡ [] → own (entries_of 1 events ++ before) 2 ≡ []
own_second [] before none = none
own_second (Called call reply ∷ events) before none = own_second events before none
own_second (_ ∷ events) before none = own_second events before none

-- DRAWS

one_draw : (t : Target) (m c i n : ℕ) (events : List Event) → times_drawn (Drew t m c i ∷ events) n ≤ 1 + times_drawn events n
one_draw t m c i n events = at (m == n)
  where
    at : (b : Bool) → cond b 1 0 + times_drawn events n ≤ 1 + times_drawn events n
    at true = omega arith
    at false = omega arith

drawn_within : (events : List Event) (n : ℕ) → times_drawn events n ≤ draws events
drawn_within [] n = omega arith
drawn_within (Drew t m c i ∷ events) n = (let h = drawn_within events n in let one = one_draw t m c i n events in omega (arith, h, one))
drawn_within (_ ∷ events) n = drawn_within events n

draws_loss : (p : ℕ) (base : List Event) → draws (with_loss p base) ≡ draws base
draws_loss p base = at (p == 0)
  where
    at : (b : Bool) → draws (if b then base else Called (Lose p Memory) (Lost Memory) ∷ base) ≡ draws base
    at true = refl
    at false = refl

draws_few : (s : Setting) (whole : List Event) → IsRun s whole ⊎ IsCut s whole → draws whole ≤ 36
draws_few s whole (inl run) = draws_bound s whole run.0
draws_few s whole (inr (base, cut)) =
    (let e : draws whole ≡ draws base = ap draws cut.cut ∙ draws_loss _ base in
    let le = draws_bound s base cut.is_past in
    omega (arith, e, le))

get_past : (xs : List Word) (j : ℕ) → length xs ≤ j → slice_get xs j ≡ None
get_past [] j le = refl
get_past (x ∷ xs) zero le = absurd (omega (arith, le))
get_past (x ∷ xs) (suc j) le = get_past xs j (omega (arith, le))

-- a nonce past the words has no draws
no_word : (words : List Word) (n : ℕ) → length words < n → draws_of words n ≡ 0
no_word words zero high = absurd (omega (arith, high))
no_word words (suc k) high = ap (λ (o : Option Word). unwrap_or (option_map (λ (w : Word). w.count) o) 0) (numbered_suc words k ∙ get_past words k (omega (arith, high)))

-- THE SECOND REQUEST

-- where nothing was told and drawn before the first one
module _ (roster : Roster) (seed : List ℕ) (before told : List Told) (first words : List Word) (request : Request) (trace : List Event)
    (none : before ≡ []) (fresh : first ≡ replicate 32 unused) (served : IsServedAlone roster seed before told first words 1 request trace) where
  few_draws : (n : ℕ) → draws_of words n ≤ 2 ^ 29
  few_draws n = at n (cases_lt (length words) n)
    where
      at : (m : ℕ) → (length words < m) ⊎ (m ≤ length words) → draws_of words m ≤ 2 ^ 29
      at m (inl high) = (let nothing = no_word words m high in omega (arith, nothing))
      at zero (inr le) = (let nothing : draws_of words 0 ≡ 0 = refl in omega (arith, nothing))
      at (suc k) (inr le) =
          (let e = served.served.drawn.counts (suc k) (omega arith) le in
          let undrawn : draws_of first (suc k) ≡ 0 = ap (λ w. draws_of w (suc k)) fresh ∙ undrawn_words 32 (suc k) in
          let within = drawn_within (reverse trace) (suc k) in
          let few = draws_few _ (reverse trace) served.is_trace in
          omega (arith, e, undrawn, within, few))

  unserved : own (past told) 2 ≡ []
  unserved =
      ap (λ l. own l 2) served.served.alone.same_calls
      ∙ own_second (reverse trace) (past before) (ap (λ l. own (past l) 2) none)

  second_ready : IsReady roster told words 2
  second_ready = record {
    unserved = unserved;
    settled = served.none_open;
    few = served.few;
    as_many = served.served.as_many;
    few_draws = few_draws;
    epochs = served.served.drawn.epochs;
  }

first_found : (requests : List Request) → length requests ≡ 2 → (request : Request) × (numbered requests 1 ≡ Some request)
first_found [] e = absurd (omega (arith, e))
first_found (a ∷ rest) e = (a, refl)

pub second_of_two : (roster : Roster) (seed : List ℕ) (before told : List Told) (first words : List Word) (trace : List Event)
    → length roster.requests ≡ 2 → before ≡ [] → first ≡ replicate 32 unused
    → ((request : Request) → numbered roster.requests 1 ≡ Some request → IsServedAlone roster seed before told first words 1 request trace) → IsReady roster told words 2
second_of_two roster seed before told first words trace two none fresh served =
    let it = first_found roster.requests two in
    second_ready roster seed before told first words it.0 trace none fresh (served it.0 it.1)

-- LINKS

undialed_behind : {s : Setting} {streams : Option (LinkName → List ℕ)} {before now : Option (List Dial)} {heard said : Option (List Traffic)} {trace : List Event}
    → IsCarriedOut s streams before now heard said trace → s.number ≡ 1 → before ≡ Some [] → (n : ℕ) → IsUndialed (record { request = 2; nth = n }) now
undialed_behind {s} {streams} {before} {now} {heard} {said} {trace} carried number none n =
    undialed_still s 2 n before now (reverse trace) (omega (arith, number)) carried.dialed (subst (IsUndialed (record { request = 2; nth = n })) (sym none) refl)

-- the first request dialed for itself alone
pub second_undialed : (roster : Roster) (seed : List ℕ) (names : Tables) (entries : List Entry) {streams : Option (LinkName → List ℕ)} {before now : Option (List Dial)} {heard said : Option (List Traffic)} {trace : List Event}
    → length roster.requests ≡ 2 → before ≡ Some []
    → ((request : Request) → numbered roster.requests 1 ≡ Some request → IsCarriedOut (setting_of roster seed names entries 1 request) streams before now heard said trace)
    → (n : ℕ) → IsUndialed (record { request = 2; nth = n }) now
second_undialed roster seed names entries two none carried n =
    let it = first_found roster.requests two in
    undialed_behind (carried it.0 it.1) refl none n
