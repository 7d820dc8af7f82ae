-- At its end a request waits for no prompt, whether it ran or was cut.
use Rattle.std.proofs.Common.{◌≡◌, ◌⊎◌, inl, inr, ℕ, ◌<◌, Bool, true, false, not, ◌&&◌, ◌||◌, ◌==◌, IsTrue, List, [], ◌∷◌, length, nat_lt, reverse, is_some, unwrap_or, option_map, refl, sym, ap, ◌∙◌, subst, arith, if◌then◌else◌}
use Rattle.std.specs.List.{list_any, list_all}
use Rattle.std.proofs.lemmas.Bool.{false≢true, eq-eqb}
use Rattle.std.proofs.lemmas.Bool.Decides.{nat_tests}
use Rattle.spaces.specs.declared.roster.Request.{Request}
use Rattle.spaces.specs.declared.roster.Roster.{Roster}
use Rattle.auth_events.specs.declared.journal.Loss.TheVariants.{Memory}
use Rattle.auth_events.specs.declared.journal.Call.{Call}
use Rattle.auth_events.specs.declared.journal.Call.TheVariants.{Select, End, Lose}
use Rattle.auth_events.specs.declared.journal.BookReply.TheVariants.{Lead, Lost, Ended as RequestEnded}
use Rattle.auth_events.specs.declared.journal.Entry.{Entry}
use Rattle.auth_events.specs.Book.{allowed, begins, ends, is_led_by, is_open, own, takes, waits}
use Rattle.auth_events.specs.Past.{prompt_followed, prompt_led, settled, settles as call_settles}
use Rattle.auth_events.specs.Tables.{Tables}
use Rattle.link_trait.specs.declared.prompts.AskSeen.{AskSeen}
use Rattle.auth_runs.specs.declared.event.Event.{Event}
use Rattle.auth_runs.specs.declared.event.Event.TheVariants.{AskedFor, Called}
use Rattle.trace_rule.specs.Entries.{AreEntries, Made, calls, made_in}
use Rattle.trace_rule.specs.Serving.{IsServing, setting_in}
use Rattle.trace_rule.specs.Settings.{Setting}
use Rattle.trace_rule.specs.Traces.{IsCut, IsPast, IsRun, IsTrace, is_end, is_follow, is_over, may_cut, prompt_open, settles, with_loss}
use Rattle.trace_rule.proofs.Allowed.{any_all, any_map, join, parts}
use Rattle.trace_rule.proofs.Ending.{began}
use Rattle.trace_rule.proofs.Holdings.{or_true}
use Rattle.trace_rule.proofs.Knowing.{agrees_of, both_of}
use Rattle.trace_rule.proofs.Prompts.{IsLastLed, last_led}
use Rattle.trace_rule.proofs.Stages.{AllDone, Stage, fits_of, no_waits, stage}
use Rattle.trace_rule.proofs.Stages.Stage.{is_asked, is_following, is_led, quiet}

-- WITH MORE CALLS

done_more : (x : Made) (xs ms : List Made) → AllDone xs ms → AllDone (x ∷ xs) ms
done_more x xs [] a = tt
done_more x xs (m ∷ ms) a = (
  (
    λ led. or_true (call_settles x.call (prompt_led m.reply)) (list_any (λ y. call_settles y.call (prompt_led m.reply)) xs) (a.0.0 led),
    λ followed. or_true (takes x.call (prompt_followed m.reply)) (list_any (λ y. takes y.call (prompt_followed m.reply)) xs) (a.0.1 followed),
  ),
  done_more x xs ms a.1,
)

-- a loss and the end wait for nothing
lose_done : (p : ℕ) (xs : List Made) → AllDone xs xs → AllDone (record { call = Lose p Memory; reply = Lost Memory } ∷ xs) (record { call = Lose p Memory; reply = Lost Memory } ∷ xs)
lose_done p xs a = ((λ led. absurd (false≢true led), λ followed. absurd (false≢true (sym followed))), done_more (record { call = Lose p Memory; reply = Lost Memory }) xs xs a)

end_done : (xs : List Made) → AllDone xs xs → AllDone (record { call = End; reply = RequestEnded } ∷ xs) (record { call = End; reply = RequestEnded } ∷ xs)
end_done xs a = ((λ led. absurd (false≢true led), λ followed. absurd (false≢true (sym followed))), done_more (record { call = End; reply = RequestEnded }) xs xs a)

-- the loss of the prompt that was led settles it
led_done : (c : Call) (p o : ℕ) (xs : List Made) → AllDone xs xs
    → AllDone (record { call = Lose p Memory; reply = Lost Memory } ∷ record { call = c; reply = Lead p o } ∷ xs) (record { call = Lose p Memory; reply = Lost Memory } ∷ record { call = c; reply = Lead p o } ∷ xs)
led_done c p o xs a = (
  (λ led. absurd (false≢true led), λ followed. absurd (false≢true (sym followed))),
  (
    (λ led. ap (λ b. b || list_any (λ y. call_settles y.call p) (record { call = c; reply = Lead p o } ∷ xs)) (eq-eqb p p refl), λ followed. absurd (false≢true (sym followed))),
    done_more (record { call = Lose p Memory; reply = Lost Memory }) (record { call = c; reply = Lead p o } ∷ xs) xs (done_more (record { call = c; reply = Lead p o }) xs xs a),
  ),
)

-- THE OPEN PROMPT

-- behind a lead the prompt is open
open_led : (s : Setting) (c : Call) (p o : ℕ) (b : List Event) → IsPast s (Called c (Lead p o) ∷ b)
    → ((p == 0) ≡ false) × (list_any (settles p) b ≡ false) × (prompt_open (Called c (Lead p o) ∷ b) (Called c (Lead p o) ∷ b) ≡ p) × ((seen : AskSeen) → prompt_open (AskedFor p seen ∷ Called c (Lead p o) ∷ b) (AskedFor p seen ∷ Called c (Lead p o) ∷ b) ≡ p)
open_led s (Select space terms) p o b run = (none_if (p == 0) facts.0, unsettled, ap (λ x. if x then 0 else p) unsettled, λ seen. ap (λ x. if x then 0 else p) unsettled)
  where
    none_if : (x : Bool) → IsTrue (not x) → x ≡ false
    none_if true h = absurd (false≢true h)
    none_if false h = refl

    facts : IsTrue (not (p == 0)) × IsTrue (not (list_any (settles p) b))
    facts = both_of (not (p == 0)) (not (list_any (settles p) b)) (both_of (is_some (s.space_of space)) (not (p == 0) && not (list_any (settles p) b)) (agrees_of s b (Select space terms) (Lead p o) run.1)).1

    unsettled : list_any (settles p) b ≡ false
    unsettled = none_if (list_any (settles p) b) facts.1
open_led s c p o b run = absurd (false≢true (fits_of s b c (Lead p o) run.1))

lost_done : (p q : ℕ) (past : List Event) → q ≡ p → (p == 0) ≡ false → AllDone (record { call = Lose p Memory; reply = Lost Memory } ∷ calls past) (record { call = Lose p Memory; reply = Lost Memory } ∷ calls past) → AllDone (calls (with_loss q past)) (calls (with_loss q past))
lost_done p q past same some a = subst (λ x. AllDone (calls (with_loss x past)) (calls (with_loss x past))) (sym same) (subst (λ b. AllDone (calls (if b then past else Called (Lose p Memory) (Lost Memory) ∷ past)) (calls (if b then past else Called (Lose p Memory) (Lost Memory) ∷ past))) (sym some) a)

either_done : (p : ℕ) (past : List Event) → AllDone (calls past) (calls past) → AllDone (calls (with_loss p past)) (calls (with_loss p past))
either_done p past a = at (p == 0)
  where
    at : (b : Bool) → AllDone (calls (if b then past else Called (Lose p Memory) (Lost Memory) ∷ past)) (calls (if b then past else Called (Lose p Memory) (Lost Memory) ∷ past))
    at true = a
    at false = lose_done p (calls past) a

-- with the loss of the open prompt nothing waits
pub cut_done : (s : Setting) (past : List Event) → IsPast s past → IsTrue (may_cut past) → AllDone (calls (with_loss (prompt_open past past) past)) (calls (with_loss (prompt_open past past) past))
cut_done s past run may = at (stage s past run)
  where
    at : Stage past → AllDone (calls (with_loss (prompt_open past past) past)) (calls (with_loss (prompt_open past past) past))
    at (quiet still a) = either_done (prompt_open past past) past a
    at (is_led c p o b e a) =
        let l = open_led s c p o b (subst (IsPast s) e run) in
        subst (λ x. AllDone (calls (with_loss (prompt_open x x) x)) (calls (with_loss (prompt_open x x) x))) (sym e)
        (lost_done p (prompt_open (Called c (Lead p o) ∷ b) (Called c (Lead p o) ∷ b)) (Called c (Lead p o) ∷ b) l.2 l.0 (led_done c p o (calls b) a))
    at (is_following c p b e a) = absurd (false≢true (ap may_cut (sym e) ∙ may))
    at (is_asked c p o seen b e a) =
        let l = open_led s c p o b (subst (IsPast s) e run).0 in
        subst (λ x. AllDone (calls (with_loss (prompt_open x x) x)) (calls (with_loss (prompt_open x x) x))) (sym e)
        (lost_done p (prompt_open (AskedFor p seen ∷ Called c (Lead p o) ∷ b) (AskedFor p seen ∷ Called c (Lead p o) ∷ b)) (AskedFor p seen ∷ Called c (Lead p o) ∷ b) (l.3 seen) l.0 (led_done c p o (calls b) a))

-- a request that is over waits for nothing
over_done : (s : Setting) (past : List Event) → IsPast s past → IsTrue (is_over past) → AllDone (calls past) (calls past)
over_done s past run over = at (stage s past run)
  where
    at : Stage past → AllDone (calls past) (calls past)
    at (quiet still a) = a
    at (is_led c p o b e a) = absurd (false≢true (ap is_over (sym e) ∙ over))
    at (is_following c p b e a) = absurd (false≢true (ap is_over (sym e) ∙ over))
    at (is_asked c p o seen b e a) = absurd (false≢true (ap is_over (sym e) ∙ over))

pub settled_traces : (s : Setting) (events : List Event) (entries : List Entry) (r : ℕ) → IsTrace s events → AreEntries entries r (reverse events) → waits entries r ≡ false
settled_traces s events entries r trace same = no_waits entries r (reverse events) same (at trace)
  where
    at : IsRun s (reverse events) ⊎ IsCut s (reverse events) → AllDone (calls (reverse events)) (calls (reverse events))
    at (inl run) = over_done s (reverse events) run.0 run.1
    at (inr (past, cut)) =
        subst (λ x. AllDone (calls x) (calls x)) (sym cut.cut) (end_done (calls (with_loss (prompt_open past past) past)) (cut_done s past cut.is_past cut.may_cut))

-- WHAT MAY BE TOLD AT A CUT

-- the request began, and hasn't ended
may_go_on : (s : Setting) (past : List Event) → IsPast s past → IsTrue (may_cut past) → IsTrue (list_any (λ made. begins made.call) (calls past)) × (list_any (λ made. ends made.call) (calls past) ≡ false)
may_go_on s [] run may = absurd (false≢true may)
may_go_on s (event ∷ past) run may = (by (began s (event ∷ past) run), unended (event ∷ past) (none_if (list_any is_end (event ∷ past)) (parts (not (is_follow event)) (not (list_any is_end (event ∷ past))) may).1))
  where
    none_if : (x : Bool) → IsTrue (not x) → x ≡ false
    none_if true h = absurd (false≢true h)
    none_if false h = refl

    by : (event ∷ past ≡ []) ⊎ IsTrue (list_any (λ made. begins made.call) (calls (event ∷ past))) → IsTrue (list_any (λ made. begins made.call) (calls (event ∷ past)))
    by (inl none) = let clash : event ∷ past ≡ [] = none in cc
    by (inr some) = some

    unended : (xs : List Event) → list_any is_end xs ≡ false → list_any (λ made. ends made.call) (calls xs) ≡ false
    unended [] none = refl
    unended (Called End reply ∷ xs) none = absurd (false≢true (sym none))
    unended (Called call reply ∷ xs) none = ap (λ b. b || list_any (λ made. ends made.call) (calls xs)) (other call none) ∙ unended xs (later call none)
      where
        other : (c : Call) → list_any is_end (Called c reply ∷ xs) ≡ false → ends c ≡ false
        other End k = absurd (false≢true (sym k))
        other _ k = refl

        later : (c : Call) → list_any is_end (Called c reply ∷ xs) ≡ false → list_any is_end xs ≡ false
        later End k = absurd (false≢true (sym k))
        later _ k = k
    unended (_ ∷ xs) none = unended xs none

module _ (entries : List Entry) (caller r : ℕ) (whole : List Event) (same : AreEntries entries r whole) (one_caller : IsTrue (list_all (λ entry. entry.caller == caller) (own entries r))) (few : length (own entries r) < 64) where
  own_any : (f : Made → Bool) → list_any (λ e. f (made_in e)) (own entries r) ≡ list_any f (calls whole)
  own_any f = any_map made_in f (own entries r) ∙ ap (list_any f) same

  still_open : IsTrue (list_any (λ made. begins made.call) (calls whole)) → list_any (λ made. ends made.call) (calls whole) ≡ false → IsTrue (is_open entries caller r)
  still_open begun unended =
      join (list_any (λ entry. begins entry.call && (entry.caller == caller)) (own entries r) && not (list_any (λ entry. ends entry.call) (own entries r))) (nat_lt (length (own entries r)) 64)
      (join (list_any (λ entry. begins entry.call && (entry.caller == caller)) (own entries r)) (not (list_any (λ entry. ends entry.call) (own entries r)))
      (any_all (λ entry. begins entry.call) (λ entry. entry.caller == caller) (own entries r) (own_any (λ made. begins made.call) ∙ begun) one_caller)
      (ap not (own_any (λ made. ends made.call) ∙ unended)))
      (grind (arith, nat_tests, few))

-- the loss changes nothing of that
lost_goes_on : (past : List Event) (b : Bool) (p : ℕ) → IsTrue (list_any (λ made. begins made.call) (calls past)) × (list_any (λ made. ends made.call) (calls past) ≡ false)
    → IsTrue (list_any (λ made. begins made.call) (calls (if b then past else Called (Lose p Memory) (Lost Memory) ∷ past))) × (list_any (λ made. ends made.call) (calls (if b then past else Called (Lose p Memory) (Lost Memory) ∷ past)) ≡ false)
lost_goes_on past true p h = h
lost_goes_on past false p h = h

pub cut_allowed : (s : Setting) (roster : Roster) (names : Tables) (entries : List Entry) (caller r : ℕ) (past : List Event)
    → IsPast s past → IsTrue (may_cut past) → AreEntries entries r (with_loss (prompt_open past past) past)
    → IsTrue (list_all (λ entry. entry.caller == caller) (own entries r)) → length (own entries r) < 64 → IsTrue (allowed roster names entries caller r End)
cut_allowed s roster names entries caller r past run may same one_caller few =
    let goes = lost_goes_on past (prompt_open past past == 0) (prompt_open past past) (may_go_on s past run may) in
    join (is_open entries caller r) (not (waits entries r))
    (still_open entries caller r (with_loss (prompt_open past past) past) same one_caller few goes.0 goes.1)
    (ap not (no_waits entries r (with_loss (prompt_open past past) past) same (cut_done s past run may)))

-- A PROMPT THAT IS OPEN

pub event_settles : (p : ℕ) (past : List Event) → list_any (settles p) past ≡ list_any (λ x. call_settles x.call p) (calls past)
event_settles p [] = refl
event_settles p (Called call reply ∷ past) = ap (λ b. b || list_any (settles p) past) (same call) ∙ ap (λ b. call_settles call p || b) (event_settles p past)
  where
    same : (c : Call) → settles p (Called c reply) ≡ call_settles c p
    same (Lose prompt loss) = refl
    same _ = refl
event_settles p (_ ∷ past) = event_settles p past

-- where nothing waits no prompt is open
none_open : (whole past : List Event) (xs : List Made) → AllDone xs (calls past) → ((p : ℕ) → IsTrue (list_any (λ x. call_settles x.call p) xs) → IsTrue (list_any (settles p) whole)) → prompt_open whole past ≡ 0
none_open whole [] xs a f = refl
none_open whole (Called (Select space terms) (Lead prompt ordinal) ∷ past) xs a f = ap (λ b. if b then 0 else prompt) (f prompt (a.0.0 refl))
none_open whole (Called call reply ∷ past) xs a f = none_open whole past xs a.1 f
none_open whole (_ ∷ past) xs a f = none_open whole past xs a f

pub loss_allowed : (n : Bool) (roster : Roster) (seed : List ℕ) (names : Tables) (entries : List Entry) (caller r : ℕ) (request : Request) (past : List Event)
    → IsServing roster names entries caller r request (setting_in n roster seed names entries r request) past
    → IsTrue (may_cut past) → IsTrue (not (prompt_open past past == 0)) → IsTrue (allowed roster names entries caller r (Lose (prompt_open past past) Memory))
loss_allowed n roster seed names entries caller r request past v may some = at (stage here past v.is_past)
  where
    here : Setting
    here = setting_in n roster seed names entries r request

    goes : IsTrue (list_any (λ made. begins made.call) (calls past)) × (list_any (λ made. ends made.call) (calls past) ≡ false)
    goes = may_go_on here past v.is_past may

    lost : (p : ℕ) → prompt_open past past ≡ p → (m : Made) → IsLastLed roster names entries r p m → IsTrue (allowed roster names entries caller r (Lose (prompt_open past past) Memory))
    lost p same m l =
        subst (λ x. IsTrue (allowed roster names entries caller r (Lose x Memory))) (sym same)
        (join (is_open entries caller r) (is_led_by entries r p && not (settled entries p)) (still_open entries caller r past v.same_calls v.one_caller v.few goes.0 goes.1)
        (join (is_led_by entries r p) (not (settled entries p))
        (ap (λ o. unwrap_or (option_map (λ (e : Entry). e.request == r) o) false) l.is_lead_of ∙ eq-eqb l.entry.request r l.own_request)
        (ap not l.is_unsettled)))

    at : Stage past → IsTrue (allowed roster names entries caller r (Lose (prompt_open past past) Memory))
    at (quiet still a) =
        absurd (false≢true (sym (ap (λ x. not (x == 0)) (none_open past past (calls past) a (λ p h. event_settles p past ∙ h))) ∙ some))
    at (is_led c p o b e a) =
        let open_prompt = open_led here c p o b (subst (IsPast here) e v.is_past) in
        lost p (ap (λ x. prompt_open x x) e ∙ open_prompt.2) (record { call = c; reply = Lead p o })
        (last_led roster names entries v.legal r p o (record { call = c; reply = Lead p o }) (calls b) (v.same_calls ∙ ap calls e) refl)
    at (is_following c p b e a) = absurd (false≢true (ap may_cut (sym e) ∙ may))
    at (is_asked c p o seen b e a) =
        let open_prompt = open_led here c p o b (subst (IsPast here) e v.is_past).0 in
        lost p (ap (λ x. prompt_open x x) e ∙ open_prompt.3 seen) (record { call = c; reply = Lead p o })
        (last_led roster names entries v.legal r p o (record { call = c; reply = Lead p o }) (calls b) (v.same_calls ∙ ap calls e) refl)
