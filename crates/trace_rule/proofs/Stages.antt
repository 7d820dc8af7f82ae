-- Each prompt that a request led is settled, and each that it followed is taken, unless it waits for it right now.
use Rattle.std.proofs.Common.{◌≡◌, ◌⊎◌, inl, inr, ℕ, Option, Some, None, Bool, true, false, not, ◌&&◌, ◌||◌, ◌==◌, cond, IsTrue, List, [], ◌∷◌, drop, refl, sym, ap, ◌∙◌, subst}
use Rattle.std.specs.Prelude.{filter}
use Rattle.std.specs.List.{list_any}
use Rattle.std.proofs.lemmas.Bool.{false≢true, eq-eqb}
use Rattle.auth_events.specs.declared.journal.Gift.{Gift}
use Rattle.auth_events.specs.declared.journal.Call.{Call}
use Rattle.auth_events.specs.declared.journal.Call.TheVariants.{Select, Answer, Take, Note, End}
use Rattle.auth_events.specs.declared.journal.BookReply.{BookReply}
use Rattle.auth_events.specs.declared.journal.BookReply.TheVariants.{Lead, Follow}
use Rattle.auth_events.specs.declared.journal.Entry.{Entry}
use Rattle.auth_events.specs.Pages.{fits}
use Rattle.auth_events.specs.Past.{is_lead, prompt_led, prompt_followed, settles, settled}
use Rattle.auth_events.specs.Book.{takes, own, waits}
use Rattle.link_trait.specs.declared.prompts.AskSeen.{AskSeen}
use Rattle.link_trait.specs.declared.prompts.AskSeen.TheVariants.{Given as AskGiven, Cancel, Failed as AskFailed, NoMemory as AskNoMemory}
use Rattle.auth_runs.specs.declared.event.Outcome.{Outcome}
use Rattle.auth_runs.specs.declared.event.Event.{Event}
use Rattle.auth_runs.specs.declared.event.Event.TheVariants.{Called, Headed, LinkLost, AskedFor, Ended}
use Rattle.trace_rule.specs.Settings.{Setting}
use Rattle.trace_rule.specs.Moves.{Want, Move, move}
use Rattle.trace_rule.specs.Closings.{want, closings, closings_made, next_closing, carried_out}
use Rattle.trace_rule.specs.Moves.Want.{Calls, Asks, Writes, Loses, Ends}
use Rattle.trace_rule.specs.Moves.Move.{Goes, Closes}
use Rattle.trace_rule.specs.Traces.{IsPast, Follows, agrees}
use Rattle.trace_rule.specs.Entries.{Made, calls, made_in, AreEntries}
use Rattle.trace_rule.specs.Serving.{is_of_prompt}
use Rattle.trace_rule.proofs.Knowing.{both_of, suits_of}
use Rattle.trace_rule.proofs.Reasons.{closing_never}
use Rattle.trace_rule.proofs.Holdings.{or_true}
use Rattle.trace_rule.proofs.Allowed.{any_map}
use Rattle.trace_rule.proofs.Waiting.{IsLed, move_led}

-- the call of an event fits its reply
pub fits_of : (s : Setting) (past : List Event) (call : Call) (reply : BookReply) → Follows s past (want s past) (Called call reply) → IsTrue (fits call reply)
fits_of s past call reply next = (both_of (fits call reply) (agrees s past call reply) (suits_of s past (want s past) call reply next)).0

pub asks_from : (s : Setting) (past : List Event) (p : ℕ) (seen : AskSeen) → IsPast s past → Follows s past (want s past) (AskedFor p seen) → IsLed p past
asks_from s past p seen run next = move_led s past p (at (move s past) refl next) (closing_never s past (Asks p) run (at (move s past) refl next))
  where
    at_want : (w : Want) → move s past ≡ Goes w → Follows s past w (AskedFor p seen) → move s past ≡ Goes (Asks p)
    at_want (Asks asked) e f = e ∙ ap (λ x. Goes (Asks x)) (sym f)
    at_want (Writes link bytes) e f = let clash : AskedFor p seen ≡ Headed link bytes = f in cc
    at_want (Loses link) e f = let clash : AskedFor p seen ≡ LinkLost link = f in cc
    at_want (Ends o) e f = let clash : AskedFor p seen ≡ Ended o = f in cc
    at_want _ e f = absurd f

    at_list : (o : Outcome) (cs : List (Option Call)) → Follows s past (next_closing o cs) (AskedFor p seen) → move s past ≡ Goes (Asks p)
    at_list o [] f = let clash : AskedFor p seen ≡ Ended o = f in cc
    at_list o (None ∷ cs) f = absurd f
    at_list o (Some c ∷ cs) f = absurd f

    at : (m : Move) → move s past ≡ m → Follows s past (carried_out s past m) (AskedFor p seen) → move s past ≡ Goes (Asks p)
    at (Goes w) e f = at_want w e f
    at (Closes o) e f = at_list o (drop (closings_made s past) (closings s past o)) f

-- SETTLED AND TAKEN

-- among the calls the prompt that this one led is settled, and the one that it followed is taken
abbrev pub IsDone : List Made → Made → Type 0
IsDone xs made =
    (IsTrue (is_lead made.reply) → IsTrue (list_any (λ x. settles x.call (prompt_led made.reply)) xs))
    × ((prompt_followed made.reply == 0) ≡ false → IsTrue (list_any (λ x. takes x.call (prompt_followed made.reply)) xs))

abbrev pub AllDone : List Made → List Made → Type 0
AllDone xs [] = Unit {0}
AllDone xs (made ∷ mades) = IsDone xs made × AllDone xs mades

done_more : (x : Made) (xs mades : List Made) → AllDone xs mades → AllDone (x ∷ xs) mades
done_more x xs [] a = tt
done_more x xs (m ∷ ms) a = (
  (
    λ led. or_true (settles x.call (prompt_led m.reply)) (list_any (λ y. settles y.call (prompt_led m.reply)) xs) (a.0.0 led),
    λ followed. or_true (takes x.call (prompt_followed m.reply)) (list_any (λ y. takes y.call (prompt_followed m.reply)) xs) (a.0.1 followed),
  ),
  done_more x xs ms a.1,
)

abbrev pub is_waiting : List Event → Bool
is_waiting (Called call (Lead p o) ∷ past) = true
is_waiting (Called call (Follow p) ∷ past) = true
is_waiting (AskedFor p seen ∷ past) = true
is_waiting past = false

pub data Stage (past : List Event) : Type 0 where
  quiet : is_waiting past ≡ false → AllDone (calls past) (calls past) → Stage past
  is_led : (c : Call) → (p o : ℕ) → (b : List Event) → past ≡ Called c (Lead p o) ∷ b → AllDone (calls b) (calls b) → Stage past
  is_following : (c : Call) → (p : ℕ) → (b : List Event) → past ≡ Called c (Follow p) ∷ b → AllDone (calls b) (calls b) → Stage past
  is_asked : (c : Call) → (p o : ℕ) → (seen : AskSeen) → (b : List Event) → past ≡ AskedFor p seen ∷ Called c (Lead p o) ∷ b → AllDone (calls b) (calls b) → Stage past

-- a call behind which nothing waits
quiet_call : (past : List Event) (call : Call) (reply : BookReply) → is_waiting (Called call reply ∷ past) ≡ false → AllDone (record { call = call; reply = reply } ∷ calls past) (calls past) → Stage (Called call reply ∷ past)
quiet_call past call reply still a = quiet still (done reply still, a)
  where
    done : (r : BookReply) → is_waiting (Called call r ∷ past) ≡ false → IsDone (record { call = call; reply = reply } ∷ calls past) (record { call = call; reply = r })
    done (Lead p o) q = absurd (false≢true (sym q))
    done (Follow p) q = absurd (false≢true (sym q))
    done r q = (λ led. absurd (false≢true led), λ followed. absurd (false≢true (sym followed)))

abbrev is_select : Call → Bool
is_select (Select space terms) = true
is_select _ = false

-- what is answered, lost or taken doesn't wait
not_waiting : (call : Call) (reply : BookReply) (past : List Event) → IsTrue (fits call reply) → is_select call ≡ false → is_waiting (Called call reply ∷ past) ≡ false
not_waiting (Select space terms) reply past f other = absurd (false≢true (sym other))
not_waiting call (Lead p o) past f other = absurd (false≢true f)
not_waiting call (Follow p) past f other = absurd (false≢true f)
not_waiting call reply past f other = refl

by_call : (s : Setting) (past : List Event) (call : Call) (reply : BookReply) → AllDone (calls past) (calls past) → Stage (Called call reply ∷ past)
by_call s past call (Lead p o) a = is_led call p o past refl a
by_call s past call (Follow p) a = is_following call p past refl a
by_call s past call reply a = quiet_call past call reply refl (done_more (record { call = call; reply = reply }) (calls past) (calls past) a)

-- behind a lead the prompter is asked
after_lead : (s : Setting) (c : Call) (p o : ℕ) (b : List Event) (event : Event) → IsPast s (event ∷ Called c (Lead p o) ∷ b) → AllDone (calls b) (calls b) → Stage (event ∷ Called c (Lead p o) ∷ b)
after_lead s (Select space terms) p o b (AskedFor q seen) run a = is_asked (Select space terms) p o seen b (ap (λ x. AskedFor x seen ∷ Called (Select space terms) (Lead p o) ∷ b) run.1) a
after_lead s (Select space terms) p o b event run a = absurd run.1
after_lead s c p o b event run a = absurd (false≢true (fits_of s b c (Lead p o) run.0.1))

-- behind a following its answer is taken
after_follow : (s : Setting) (c : Call) (p : ℕ) (b : List Event) (event : Event) → IsPast s (event ∷ Called c (Follow p) ∷ b) → AllDone (calls b) (calls b) → Stage (event ∷ Called c (Follow p) ∷ b)
after_follow s (Select space terms) p b (Called call reply) run a =
    let taken : call ≡ Take p = run.1.0 in
    let f : IsTrue (fits (Take p) reply) = subst (λ x. IsTrue (fits x reply)) taken (fits_of s (Called (Select space terms) (Follow p) ∷ b) call reply run.1) in
    subst (λ x. Stage (Called x reply ∷ Called (Select space terms) (Follow p) ∷ b)) (sym taken)
    (quiet_call (Called (Select space terms) (Follow p) ∷ b) (Take p) reply (not_waiting (Take p) reply _ f refl) (
      (λ led. absurd (false≢true led), λ followed. ap (λ x. x || list_any (λ y. takes y.call p) (record { call = Select space terms; reply = Follow p } ∷ calls b)) (eq-eqb p p refl)),
      done_more (record { call = Take p; reply = reply }) (record { call = Select space terms; reply = Follow p } ∷ calls b) (calls b) (done_more (record { call = Select space terms; reply = Follow p }) (calls b) (calls b) a),
    ))
after_follow s (Select space terms) p b event run a = absurd run.1
after_follow s c p b event run a = absurd (false≢true (fits_of s b c (Follow p) run.0.1))

-- what settles the prompt that was asked for
settle : (s : Setting) (c : Call) (p o : ℕ) (seen : AskSeen) (b : List Event) (call : Call) (reply : BookReply) → IsTrue (settles call p) → is_select call ≡ false → IsTrue (fits call reply) → AllDone (calls b) (calls b)
    → Stage (Called call reply ∷ AskedFor p seen ∷ Called c (Lead p o) ∷ b)
settle s c p o seen b call reply done other f a =
    quiet_call (AskedFor p seen ∷ Called c (Lead p o) ∷ b) call reply (not_waiting call reply _ f other) (
      (λ led. ap (λ x. x || list_any (λ y. settles y.call p) (record { call = c; reply = Lead p o } ∷ calls b)) done, λ followed. absurd (false≢true (sym followed))),
      done_more (record { call = call; reply = reply }) (record { call = c; reply = Lead p o } ∷ calls b) (calls b) (done_more (record { call = c; reply = Lead p o }) (calls b) (calls b) a),
    )

after_ask : (s : Setting) (c : Call) (p o : ℕ) (seen : AskSeen) (b : List Event) (event : Event) → IsPast s (event ∷ AskedFor p seen ∷ Called c (Lead p o) ∷ b) → AllDone (calls b) (calls b) → Stage (event ∷ AskedFor p seen ∷ Called c (Lead p o) ∷ b)
after_ask s c p o AskGiven b (Called (Answer prompt text terms) reply) run a =
    settle s c p o AskGiven b (Answer prompt text terms) reply (eq-eqb prompt p run.1.0) refl (fits_of s (AskedFor p AskGiven ∷ Called c (Lead p o) ∷ b) (Answer prompt text terms) reply run.1) a
after_ask s c p o AskGiven b event run a = absurd run.1
after_ask s c p o Cancel b (Called call reply) run a =
    settle s c p o Cancel b call reply (ap (λ x. settles x p) run.1.0 ∙ eq-eqb p p refl) (ap is_select run.1.0) (fits_of s (AskedFor p Cancel ∷ Called c (Lead p o) ∷ b) call reply run.1) a
after_ask s c p o Cancel b event run a = absurd run.1
after_ask s c p o (AskFailed count) b (Called call reply) run a =
    settle s c p o (AskFailed count) b call reply (ap (λ x. settles x p) run.1.0 ∙ eq-eqb p p refl) (ap is_select run.1.0) (fits_of s (AskedFor p (AskFailed count) ∷ Called c (Lead p o) ∷ b) call reply run.1) a
after_ask s c p o (AskFailed count) b event run a = absurd run.1
after_ask s c p o AskNoMemory b (Called call reply) run a =
    settle s c p o AskNoMemory b call reply (ap (λ x. settles x p) run.1.0 ∙ eq-eqb p p refl) (ap is_select run.1.0) (fits_of s (AskedFor p AskNoMemory ∷ Called c (Lead p o) ∷ b) call reply run.1) a
after_ask s c p o AskNoMemory b event run a = absurd run.1

-- behind a quiet past
after_quiet : (s : Setting) (past : List Event) (event : Event) → IsPast s (event ∷ past) → is_waiting past ≡ false → AllDone (calls past) (calls past) → Stage (event ∷ past)
after_quiet s past (Called call reply) run still a = by_call s past call reply a
after_quiet s past (AskedFor p seen) run still a =
    let l = asks_from s past p seen run.0 run.1 in absurd (false≢true (sym still ∙ ap is_waiting l.3))
after_quiet s past _ run still a = quiet refl a

pub stage : (s : Setting) (past : List Event) → IsPast s past → Stage past
stage s [] run = quiet refl tt
stage s (event ∷ past) run = at (stage s past run.0)
  where
    at : Stage past → Stage (event ∷ past)
    at (quiet still a) = after_quiet s past event run still a
    at (is_led c p o b e a) = subst (λ x. Stage (event ∷ x)) (sym e) (after_lead s c p o b event (subst (λ x. IsPast s (event ∷ x)) e run) a)
    at (is_following c p b e a) = subst (λ x. Stage (event ∷ x)) (sym e) (after_follow s c p b event (subst (λ x. IsPast s (event ∷ x)) e run) a)
    at (is_asked c p o seen b e a) = subst (λ x. Stage (event ∷ x)) (sym e) (after_ask s c p o seen b event (subst (λ x. IsPast s (event ∷ x)) e run) a)

-- where a call is wanted that is none of a prompt, nothing waits
pub quiet_stage : (s : Setting) (past : List Event) (call : Call) → IsPast s past → want s past ≡ Calls call → is_of_prompt call ≡ false → AllDone (calls past) (calls past)
quiet_stage s past call run w other = at (stage s past run)
  where
    is_calls : Want → Bool
    is_calls (Calls c) = true
    is_calls _ = false

    prompting : Want → Bool
    prompting (Calls c) = is_of_prompt c
    prompting _ = true

    clash : prompting (want s past) ≡ true → AllDone (calls past) (calls past)
    clash e = absurd (false≢true (sym (ap prompting w ∙ other) ∙ e))

    led : (c : Call) (p o : ℕ) (b : List Event) → IsPast s (Called c (Lead p o) ∷ b) → prompting (want s (Called c (Lead p o) ∷ b)) ≡ true
    led (Select space terms) p o b r = refl
    led c p o b r = absurd (false≢true (fits_of s b c (Lead p o) r.1))

    follows : (c : Call) (p : ℕ) (b : List Event) → IsPast s (Called c (Follow p) ∷ b) → prompting (want s (Called c (Follow p) ∷ b)) ≡ true
    follows (Select space terms) p b r = refl
    follows c p b r = absurd (false≢true (fits_of s b c (Follow p) r.1))

    asked_for : (p : ℕ) (seen : AskSeen) (b : List Event) → prompting (want s (AskedFor p seen ∷ b)) ≡ true
    asked_for p AskGiven b = refl
    asked_for p Cancel b = refl
    asked_for p (AskFailed count) b = refl
    asked_for p AskNoMemory b = refl

    at : Stage past → AllDone (calls past) (calls past)
    at (quiet still a) = a
    at (is_led c p o b e a) = clash (ap (λ x. prompting (want s x)) e ∙ led c p o b (subst (IsPast s) e run))
    at (is_following c p b e a) = clash (ap (λ x. prompting (want s x)) e ∙ follows c p b (subst (IsPast s) e run))
    at (is_asked c p o seen b e a) = clash (ap (λ x. prompting (want s x)) e ∙ asked_for p seen (Called c (Lead p o) ∷ b))

-- THE BOOK'S TEST

pub any_within : {A : Type 0} (f g : A → Bool) (xs : List A) → IsTrue (list_any f (filter g xs)) → IsTrue (list_any f xs)
any_within f g [] some = absurd (false≢true some)
any_within {A} f g (x ∷ xs) some = at (g x) (any_within f g xs) some
  where
    here : (a : Bool) → (IsTrue (list_any f (filter g xs)) → IsTrue (list_any f xs)) → IsTrue (a || list_any f (filter g xs)) → IsTrue (a || list_any f xs)
    here true later t = refl
    here false later t = later t

    at : (b : Bool) → (IsTrue (list_any f (filter g xs)) → IsTrue (list_any f xs)) → IsTrue (list_any f (cond b (x ∷ filter g xs) (filter g xs))) → IsTrue (f x || list_any f xs)
    at true later t = here (f x) later t
    at false later t = or_true (f x) (list_any f xs) (later t)

module _ (entries : List Entry) (r : ℕ) (past : List Event) (same : AreEntries entries r past) where
  own_same : (f : Made → Bool) → list_any (λ e. f (made_in e)) (own entries r) ≡ list_any f (calls past)
  own_same f = any_map made_in f (own entries r) ∙ ap (list_any f) same

  settled_by_calls : (p : ℕ) → IsTrue (list_any (λ x. settles x.call p) (calls past)) → IsTrue (settled entries p)
  settled_by_calls p told = any_within (λ e. settles e.call p) (λ e. e.request == r) entries (own_same (λ x. settles x.call p) ∙ told)

  abbrev leads_open : Made → Bool
  leads_open m = is_lead m.reply && not (settled entries (prompt_led m.reply))

  abbrev follows_on : Made → Bool
  follows_on m = not (prompt_followed m.reply == 0) && not (list_any (λ later. takes later.call (prompt_followed m.reply)) (own entries r))

  none_open : (ms : List Made) → AllDone (calls past) ms → list_any leads_open ms ≡ false
  none_open [] a = refl
  none_open (m ∷ ms) a = at (is_lead m.reply) refl ∙ none_open ms a.1
    where
      at : (b : Bool) → is_lead m.reply ≡ b → (b && not (settled entries (prompt_led m.reply)) || list_any leads_open ms) ≡ list_any leads_open ms
      at true led = ap (λ x. not x || list_any leads_open ms) (settled_by_calls (prompt_led m.reply) (a.0.0 led))
      at false led = refl

  none_follow : (ms : List Made) → AllDone (calls past) ms → list_any follows_on ms ≡ false
  none_follow [] a = refl
  none_follow (m ∷ ms) a = at (prompt_followed m.reply == 0) refl ∙ none_follow ms a.1
    where
      at : (b : Bool) → (prompt_followed m.reply == 0) ≡ b → (not b && not (list_any (λ later. takes later.call (prompt_followed m.reply)) (own entries r)) || list_any follows_on ms) ≡ list_any follows_on ms
      at true none = refl
      at false some = ap (λ x. not x || list_any follows_on ms) (own_same (λ x. takes x.call (prompt_followed m.reply)) ∙ a.0.1 some)

  pub no_waits : AllDone (calls past) (calls past) → waits entries r ≡ false
  no_waits a =
      ap (λ x. x || list_any (λ e. follows_on (made_in e)) (own entries r)) (own_same leads_open ∙ none_open (calls past) a) ∙ (own_same follows_on ∙ none_follow (calls past) a)
