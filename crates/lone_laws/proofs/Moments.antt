-- A request that one caller served obeyed its rule at each moment by what was given then.
use Rattle.std.proofs.Common.{◌≡◌, ℕ, Bool, true, false, IsTrue, List, [], ◌∷◌, ◌++◌, Some, None, is_some, refl, sym, ap, ◌∙◌, subst, append_assoc}
use Rattle.std.proofs.lemmas.Bool.{false≢true}
use Rattle.spaces.specs.declared.roster.Request.{Request}
use Rattle.spaces.specs.declared.roster.Roster.{Roster}
use Rattle.spaces.specs.declared.site.Target.{Target}
use Rattle.spaces.specs.Sites.{numbered}
use Rattle.auth_events.specs.declared.journal.BookReply.{BookReply}
use Rattle.auth_events.specs.declared.journal.Call.{Call}
use Rattle.auth_events.specs.declared.journal.Call.TheVariants.{Answer}
use Rattle.auth_events.specs.declared.journal.Entry.{Entry}
use Rattle.auth_events.specs.Book.{IsLegalPast, IsStep, own}
use Rattle.auth_events.specs.Fresh.{knows}
use Rattle.auth_events.specs.Tables.{AreNames, Tables}
use Rattle.auth_runs.specs.declared.event.Event.{Event}
use Rattle.auth_runs.specs.declared.event.Event.TheVariants.{Called, Drew, Headed, LinkLost, Ended}
use Rattle.trace_rule.specs.Closings.{want}
use Rattle.trace_rule.specs.Growing.{KnowsMore}
use Rattle.trace_rule.specs.Moves.{Want}
use Rattle.trace_rule.specs.Moves.Want.{Answers, Calls, Draws, Ends, Loses, Writes}
use Rattle.trace_rule.specs.Serving.{IsServing}
use Rattle.trace_rule.specs.Settings.{Setting, setting_of}
use Rattle.trace_rule.specs.Traces.{Follows, IsAnswer, IsCall, IsPast, suits}
use Rattle.trace_rule.proofs.DrawNames.{drawn_named}
use Rattle.trace_rule.proofs.Growing.{past_more}
use Rattle.trace_rule.proofs.Lasting.{later_knows}
use Rattle.trace_rule.proofs.Wishes.{Wish, granted, wished}
use Rattle.trace_rule.proofs.Wishes.Wish.{Sure, Chooses, Renews}
use Rattle.trace_laws.specs.Answering.{made}
use Rattle.trace_laws.proofs.Readings.{drawn_known}
use Rattle.trace_laws.proofs.Suiting.{calls_suited, texts_suited}
use Rattle.serving_laws.specs.Alone.{IsAlone, entries_of, has_open_prompt}
use Rattle.serving_laws.proofs.Entries.{serving}
use Rattle.serving_laws.proofs.Knowing.{same_names}
use Rattle.run_laws.proofs.Shared.{legal_behind}

itself : (s : Setting) → KnowsMore s s
itself s = record {
  space_no = λ space n found. found;
  space_of = λ n space found. found;
  terms_no = λ space terms n found. found;
  terms_of = λ n name found. found;
  identity_of = λ gift login found. found;
}

abbrev pub is_called : Event → Bool
is_called (Called call reply) = true
is_called _ = false

not_call : (z : Setting) (past : List Event) (c : Call) (e : Event) → is_called e ≡ false → IsCall z past c e → ⊥
not_call z past c (Called m reply) none h = false≢true (sym none)
not_call z past c _ none h = h

not_answer : (z : Setting) (past : List Event) (p t : ℕ) (e : Event) → is_called e ≡ false → IsAnswer z past p t e → ⊥
not_answer z past p t (Called m reply) none h = false≢true (sym none)
not_answer z past p t _ none h = h

-- what is no call follows by any setting
follows_any : (a b : Setting) (past : List Event) (w : Want) (e : Event) → is_called e ≡ false → Follows a past w e → Follows b past w e
follows_any a b past (Calls c) e none h = absurd (not_call a past c e none h)
follows_any a b past (Answers p t) e none h = absurd (not_answer a past p t e none h)
follows_any a b past _ e none h = h

-- a draw is what was wanted
draw_wanted : (s : Setting) (past : List Event) (w : Want) (t : Target) (n c i : ℕ) → Follows s past w (Drew t n c i) → w ≡ Draws t n
draw_wanted s past (Draws u k) t n c i h = ap (λ x. Draws x k) (sym h.0) ∙ ap (Draws t) (sym h.1)
draw_wanted s past (Writes link bytes) t n c i h = let e : Drew t n c i ≡ Headed link bytes = h in cc
draw_wanted s past (Loses link) t n c i h = let e : Drew t n c i ≡ LinkLost link = h in cc
draw_wanted s past (Ends outcome) t n c i h = let e : Drew t n c i ≡ Ended outcome = h in cc
draw_wanted s past _ t n c i h = absurd h

module _ (roster : Roster) (seed : List ℕ) (names : Tables) (before : List Entry) (r : ℕ) (request : Request)
    (are_names : AreNames names) (in_roster : numbered roster.requests r ≡ Some request) (unserved : own before r ≡ []) (none_open : has_open_prompt before ≡ false) where
  abbrev here : List Entry → Setting
  here entries = setting_of roster seed names entries r request

  -- the entries at that moment
  abbrev back : List Event → List Entry
  back past = entries_of r past ++ before

  pub alone_then : (past : List Event) → IsLegalPast roster names (back past) → IsAlone roster names before (back past) r request past
  alone_then past legal = record { legal = legal; are_names = are_names; in_roster = in_roster; same_calls = refl; unserved = unserved; none_open = none_open }

  served_then : (past : List Event) → IsLegalPast roster names (back past) → IsPast (here (back past)) past → IsServing roster names (back past) 1 r request (here (back past)) past
  served_then past legal run = serving roster names before (back past) r request past (alone_then past legal) seed run

  knows_later : (later entries : List Entry) → IsLegalPast roster names (later ++ entries) → KnowsMore (here entries) (here (later ++ entries))
  knows_later later entries legal = later_knows roster seed names names (same_names names) later entries legal r request

  -- WHAT COMES NEXT

  same_grant : (a b : List Entry) (x : Wish) → granted (here a) x ≡ granted (here b) x
  same_grant a b (Sure w) = refl
  same_grant a b (Chooses space None) = refl
  same_grant a b (Chooses space (Some terms)) = refl
  same_grant a b (Renews gift terms) = refl

  same_want : (later entries : List Entry) (past : List Event) → IsLegalPast roster names (later ++ entries) → IsPast (here entries) past → want (here entries) past ≡ want (here (later ++ entries)) past
  same_want later entries past legal run =
      let w = wished (here entries) past run in
      w.2 (here entries) (itself (here entries)) ∙ (same_grant entries (later ++ entries) w.0 ∙ sym (w.2 (here (later ++ entries)) (knows_later later entries legal)))

  -- A CALL

  module _ (past : List Event) (call : Call) (reply : BookReply) (legal : IsLegalPast roster names (made 1 r call reply ∷ back past)) (run : IsPast (here (back past)) past) (far : Setting) where
    abbrev behind : Setting
    behind = here (made 1 r call reply ∷ back past)

    step : IsStep roster names (back past) (made 1 r call reply)
    step = legal.1

    abbrev v : IsServing roster names (back past) 1 r request (here (back past)) past
    v = served_then past legal.0 run

    answered : (q t : ℕ) → want (here (back past)) past ≡ Answers q t → (c : Call) → c ≡ call → IsAnswer far past q t (Called c reply) → IsAnswer behind past q t (Called c reply)
    answered q t is (Answer p text terms) same f =
        let wanted : want (here (back past)) past ≡ Answers p terms = is ∙ (ap (λ x. Answers x t) (sym f.0) ∙ ap (Answers p) (sym f.1)) in (
          f.0,
          f.1,
          f.2,
          subst (λ c. IsTrue (suits (here (made 1 r c reply ∷ back past)) past (Answer p text terms) reply)) same
              (texts_suited false roster seed names (back past) 1 r request past v p text terms reply wanted f.2 (subst (λ c. IsStep roster names (back past) (made 1 r c reply)) (sym same) step)),
        )
    answered q t is _ same f = absurd f

    follows_then : (w : Want) → want (here (back past)) past ≡ w → Follows far past w (Called call reply) → Follows behind past w (Called call reply)
    follows_then (Calls c) is f = (f.0, calls_suited false roster seed names (back past) 1 r request past v call reply (is ∙ ap Calls (sym f.0)) step)
    follows_then (Answers q t) is f = answered q t is call refl f
    follows_then (Writes link bytes) is f = f
    follows_then (Loses link) is f = f
    follows_then (Ends outcome) is f = f
    follows_then _ is f = absurd f

    called_then : Follows far past (want (here (back past)) past) (Called call reply) → IsPast behind (Called call reply ∷ past)
    called_then f = (
      past_more (here (back past)) behind (knows_later (made 1 r call reply ∷ []) (back past) legal) past run,
      subst (λ w. Follows behind past w (Called call reply)) (same_want (made 1 r call reply ∷ []) (back past) past legal run) (follows_then (want (here (back past)) past) refl f),
    )

  -- AT EACH MOMENT

  pub moment : (past : List Event) (later : List Entry) → IsLegalPast roster names (later ++ back past) → IsPast (here (later ++ back past)) past → IsPast (here (back past)) past
  moment [] later legal run = tt
  moment (Called call reply ∷ past) later legal run =
      let entry : Entry = made 1 r call reply in
      let order : (later ++ entry ∷ []) ++ back past ≡ later ++ entry ∷ back past = append_assoc later (entry ∷ []) (back past) in
      let whole : IsLegalPast roster names ((later ++ entry ∷ []) ++ back past) = subst (IsLegalPast roster names) (sym order) legal in
      let earlier : IsPast (here (back past)) past = moment past (later ++ entry ∷ []) whole (subst (λ l. IsPast (here l) past) (sym order) run.0) in
      let same : want (here (back past)) past ≡ want (here (later ++ entry ∷ back past)) past =
      same_want (later ++ entry ∷ []) (back past) past whole earlier ∙ ap (λ l. want (here l) past) order in
      called_then past call reply (legal_behind roster names later (entry ∷ back past) legal) earlier (here (later ++ entry ∷ back past))
      (subst (λ w. Follows (here (later ++ entry ∷ back past)) past w (Called call reply)) (sym same) run.1)
  moment (e ∷ past) later legal run =
      let earlier : IsPast (here (back past)) past = moment past later legal run.0 in
      let same : want (here (back past)) past ≡ want (here (later ++ back past)) past = same_want later (back past) past legal earlier in
      (earlier, subst (λ w. Follows (here (back past)) past w e) (sym same) (follows_any (here (later ++ back past)) (here (back past)) past (want (here (later ++ back past)) past) e refl run.1))

  -- DRAWS

  pub drew_then : (past : List Event) (later : List Entry) → IsLegalPast roster names (later ++ back past) → (t : Target) (n c i : ℕ) → IsPast (here (later ++ back past)) (Drew t n c i ∷ past)
      → IsTrue (knows names (back past) r n) × IsTrue (is_some (numbered names.nonces n))
  drew_then past later legal t n c i run =
      let now = moment (Drew t n c i ∷ past) later legal run in
      let wanted : want (here (back past)) past ≡ Draws t n = draw_wanted (here (back past)) past (want (here (back past)) past) t n c i now.1 in
      let v = served_then past (legal_behind roster names later (back past) legal) now.0 in
      (drawn_known false roster seed names (back past) 1 r request past v t n wanted, drawn_named false roster seed names (back past) 1 r request past v t n wanted)
