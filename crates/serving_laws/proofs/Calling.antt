-- A call that comes next in a request of one caller, its reply, and what stands behind it.
use Rattle.std.proofs.Common.{◌≡◌, ℕ, ◌≤◌, Bool, true, false, not, ◌==◌, cond, IsTrue, List, [], ◌∷◌, length, Option, Some, None, refl, sym, ap, subst}
use Rattle.std.proofs.lemmas.Bool.{false≢true}
use Rattle.spaces.specs.declared.roster.Request.{Request}
use Rattle.spaces.specs.declared.roster.Roster.{Roster}
use Rattle.auth_events.specs.declared.journal.BookReply.{BookReply}
use Rattle.auth_events.specs.declared.journal.BookReply.TheVariants.{Cancelled, Given, Kept, Noted, Removed, Renewed}
use Rattle.auth_events.specs.declared.journal.Call.{Call}
use Rattle.auth_events.specs.declared.journal.Call.TheVariants.{Begin, Preempt, Select, Reject, Renew, Answer, Lose, Take, Note, End, Draw}
use Rattle.auth_events.specs.declared.journal.Entry.{Entry}
use Rattle.auth_events.specs.declared.journal.Gift.{Gift}
use Rattle.auth_events.specs.Told.{is_pending}
use Rattle.auth_events.specs.Past.{current, current_ordinal, evicted}
use Rattle.auth_events.specs.Book.{Choice, IsLegalPast, allowed, allowed_call, answer, choice, is_open, is_rival, is_that_gift, kept_or, next_gift, preempt_answer, ready, select_answer, space_by_path, space_of_prompt}
use Rattle.auth_events.specs.Book.Choice.{ByUrl, ByCache, ByDefault, ByFollowing, ByLeading}
use Rattle.auth_events.specs.Tables.{Tables}
use Rattle.auth_events.proofs.Numbers.{and_right}
use Rattle.auth_runs.specs.declared.event.Event.{Event}
use Rattle.auth_runs.specs.declared.event.Event.TheVariants.{Called}
use Rattle.trace_rule.specs.Closings.{want}
use Rattle.trace_rule.specs.Moves.Want.{Answers, Calls}
use Rattle.trace_rule.specs.Settings.{Setting, setting_of}
use Rattle.trace_rule.specs.Traces.{Follows, IsPast, suits}
use Rattle.trace_rule.proofs.Asking.{answers_allowed, wanted_allowed}
use Rattle.trace_laws.specs.Answering.{made}
use Rattle.trace_laws.proofs.Suiting.{calls_suited, texts_suited}
use Rattle.serving_laws.specs.Alone.{IsAlone}
use Rattle.serving_laws.specs.Knowing.{KnowsBook}
use Rattle.serving_laws.specs.Taking.{ComesNext, IsTaken}
use Rattle.serving_laws.proofs.Entries.{serving}
use Rattle.serving_laws.proofs.Knowing.{knew_before, knows_itself, same_names, suits_known}
use Rattle.serving_laws.proofs.Open.{no_take}

-- ONLY WHO WAITS FOR A PROMPT IS TOLD THAT IT IS OPEN

kept_told : (entries : List Entry) (gift : Gift) (done : BookReply) → is_pending done ≡ false → is_pending (kept_or entries gift done) ≡ false
kept_told entries gift done told = at (is_that_gift (current entries gift.space) gift)
  where
    at : (b : Bool) → is_pending (cond b done (Kept (current_ordinal entries gift.space))) ≡ false
    at true = told
    at false = refl

ready_told : (names : Tables) (entries : List Entry) (s : ℕ) (o : Option Gift) → is_pending (ready names entries s o) ≡ false
ready_told names entries s None = refl
ready_told names entries s (Some gift) = refl

preempted_told : (names : Tables) (entries : List Entry) (o : Option ℕ) → is_pending (preempt_answer names entries o) ≡ false
preempted_told names entries None = refl
preempted_told names entries (Some s) = ready_told names entries s (current entries s)

selected_told : (rival : ℕ → Bool) (entries : List Entry) (s : ℕ) (how : Choice) → is_pending (select_answer rival entries s how) ≡ false
selected_told rival entries s ByUrl = refl
selected_told rival entries s (ByCache gift) = refl
selected_told rival entries s ByDefault = refl
selected_told rival entries s (ByFollowing p) = refl
selected_told rival entries s ByLeading = refl

module _ (roster : Roster) (seed : List ℕ) (names : Tables) (before entries : List Entry) (r : ℕ) (request : Request) (past : List Event) (alone : IsAlone roster names before entries r request past) where
  pub answered : (call : Call) → IsTrue (allowed roster names entries 1 r call) → is_pending (answer roster names entries r call) ≡ false
  answered Begin may = refl
  answered (Preempt target) may = preempted_told names entries (space_by_path roster names entries r target)
  answered (Select space t) may = selected_told (is_rival names space) entries space (choice roster names entries r space)
  answered (Reject space ordinal) may = kept_told entries (record { space = space; ordinal = ordinal }) Removed refl
  answered (Renew gift t) may = kept_told entries gift Renewed refl
  answered (Answer prompt text t) may = at (text == 0)
    where
      at : (b : Bool) → is_pending (cond b Cancelled (Given (next_gift entries (space_of_prompt entries prompt)) (evicted (is_rival names (space_of_prompt entries prompt)) entries (space_of_prompt entries prompt)))) ≡ false
      at true = refl
      at false = refl
  answered (Lose prompt loss) may = refl
  answered (Take p) may = absurd (no_take roster names before r request entries past p alone may)
  answered (Note gift) may = kept_told entries gift Noted refl
  answered End may = refl
  answered (Draw nonce) may = absurd (false≢true (and_right (is_open entries 1 r) (allowed_call roster names entries r (Draw nonce)) may))

  abbrev here : Setting
  here = setting_of roster seed names entries r request

  -- CALLS

  pub call_allowed : (call : Call) → ComesNext roster seed names entries r request past (Calls call) → IsTrue (allowed roster names entries 1 r call)
  call_allowed call next =
      let now = next (setting_of roster seed names entries r request) (knows_itself roster seed names entries r request) in
      wanted_allowed false roster seed names entries 1 r request past (serving roster names before entries r request past alone seed now.0) call now.1

  pub answer_allowed : (p text t : ℕ) → ComesNext roster seed names entries r request past (Answers p t) → text ≤ length names.texts → IsTrue (allowed roster names entries 1 r (Answer p text t))
  answer_allowed p text t next named =
      let now = next (setting_of roster seed names entries r request) (knows_itself roster seed names entries r request) in
      answers_allowed false roster seed names entries 1 r request past (serving roster names before entries r request past alone seed now.0) p text t now.1 named

  module _ (call : Call) (reply : BookReply) (legal : IsLegalPast roster names (made 1 r call reply ∷ entries)) where
    -- who knows the book with the entry knows it without
    earlier_knows : (s : Setting) → KnowsBook roster seed names (made 1 r call reply ∷ entries) r request s → KnowsBook roster seed names entries r request s
    earlier_knows s k = knew_before roster seed names names (made 1 r call reply ∷ []) entries r request s (same_names names) legal k

    still_alone : IsAlone roster names before (made 1 r call reply ∷ entries) r request (Called call reply ∷ past)
    still_alone = record {
      legal = legal;
      are_names = alone.are_names;
      in_roster = alone.in_roster;
      same_calls = ap (λ (l : List Entry). made 1 r call reply ∷ l) alone.same_calls;
      unserved = alone.unserved;
      none_open = alone.none_open;
    }

    pub call_taken : ComesNext roster seed names entries r request past (Calls call) → IsTaken roster seed names before entries r request past call reply
    call_taken next = record { alone = still_alone; suited = λ s k. suits_known roster seed names (made 1 r call reply ∷ entries) r request s past call reply k later.0 (subst (λ w. Follows behind past w (Called call reply)) (sym later.1) (refl, fit)) }
      where
        behind : Setting
        behind = setting_of roster seed names (made 1 r call reply ∷ entries) r request

        now : IsPast (setting_of roster seed names entries r request) past × (want (setting_of roster seed names entries r request) past ≡ Calls call)
        now = next (setting_of roster seed names entries r request) (knows_itself roster seed names entries r request)

        later : IsPast behind past × (want behind past ≡ Calls call)
        later = next behind (earlier_knows behind (knows_itself roster seed names (made 1 r call reply ∷ entries) r request))

        fit : IsTrue (suits behind past call reply)
        fit = calls_suited false roster seed names entries 1 r request past (serving roster names before entries r request past alone seed now.0) call reply now.1 legal.1

  module _ (p text t : ℕ) (reply : BookReply) (legal : IsLegalPast roster names (made 1 r (Answer p text t) reply ∷ entries)) where
    pub text_taken : ComesNext roster seed names entries r request past (Answers p t) → IsTrue (not (text == 0)) → IsTaken roster seed names before entries r request past (Answer p text t) reply
    text_taken next some = record { alone = still_alone (Answer p text t) reply legal; suited = λ s k. suits_known roster seed names (made 1 r (Answer p text t) reply ∷ entries) r request s past (Answer p text t) reply k later.0 (subst (λ w. Follows behind past w (Called (Answer p text t) reply)) (sym later.1) (refl, refl, some, fit)) }
      where
        behind : Setting
        behind = setting_of roster seed names (made 1 r (Answer p text t) reply ∷ entries) r request

        now : IsPast (setting_of roster seed names entries r request) past × (want (setting_of roster seed names entries r request) past ≡ Answers p t)
        now = next (setting_of roster seed names entries r request) (knows_itself roster seed names entries r request)

        later : IsPast behind past × (want behind past ≡ Answers p t)
        later = next behind (earlier_knows (Answer p text t) reply legal behind (knows_itself roster seed names (made 1 r (Answer p text t) reply ∷ entries) r request))

        fit : IsTrue (suits behind past (Answer p text t) reply)
        fit = texts_suited false roster seed names entries 1 r request past (serving roster names before entries r request past alone seed now.0) p text t reply now.1 some legal.1
