-- A machine that is given the book's reply is served on.
use Rattle.std.proofs.Common.{◌≡◌, ◌⊎◌, inl, inr, ℕ, ◌+◌, ◌≤◌, Bool, true, false, not, ◌==◌, cond, IsTrue, List, ◌∷◌, length, Option, Some, None, option_map, refl, if◌then◌else◌, sym, ap, ◌∙◌, subst}
use Rattle.std.proofs.lemmas.Bool.{false≢true}
use Rattle.spaces.specs.declared.roster.Request.{Request}
use Rattle.spaces.specs.declared.roster.Roster.{Roster}
use Rattle.auth_events.specs.declared.journal.BookReply.{BookReply}
use Rattle.auth_events.specs.declared.journal.Call.{Call}
use Rattle.auth_events.specs.declared.journal.Call.TheVariants.{Answer, End as CallEnd, Lose, Reject, Renew, Select, Take}
use Rattle.auth_events.specs.declared.journal.Loss.TheVariants.{Memory}
use Rattle.auth_events.specs.declared.journal.Drawn.{Drawn}
use Rattle.auth_events.specs.declared.told.Told.{Told}
use Rattle.auth_events.specs.Book.{answer, IsLegalPast}
use Rattle.auth_events.specs.Tables.{Tables}
use Rattle.auth_events.specs.Told.{is_pending, names_told, past}
use Rattle.auth_runs.specs.declared.event.Event.TheVariants.{Called}
use Rattle.auth_events.specs.declared.journal.BookReply.TheVariants.{Lost}
use Rattle.auth_events.proofs.Numbers.{and_left}
use Rattle.serving_laws.specs.Rooms.{HasNamed}
use Rattle.trace_laws.specs.Answering.{made}
use Rattle.trace_rule.specs.Closings.{want}
use Rattle.trace_rule.specs.Moves.Want.{Calls}
use Rattle.trace_rule.specs.Settings.{Setting, setting_of}
use Rattle.trace_rule.specs.Traces.{IsPast, suits}
use Rattle.serving_laws.specs.Knowing.{KnowsBook}
use Rattle.serving_laws.proofs.Knowing.{knows_itself}
use Rattle.request_machine.specs.declared.need.Need.{Need}
use Rattle.request_machine.specs.declared.need.Need.TheVariants.{Book, SpaceNo, SpaceOf, TermsNo, TextNo}
use Rattle.request_machine.specs.declared.stage.Piece.TheVariants.{Space as OfSpace, Identity as OfIdentity, Terms as OfTerms}
use Rattle.request_machine.specs.Changed.{holding}
use Rattle.request_machine.specs.declared.stage.Stage.{Stage}
use Rattle.request_machine.specs.declared.stage.Stage.TheVariants.{Call as Calling, Learn, NameSpace, NameTerms, Select as Selecting, Ask, NameText, Answer as Answering, Cancel as Cancelling, Lose as Losing, Take as Taking, Reject as Rejecting, NameRenewal, Renew as Renewing, NameLast, RenewLast, Close, Spent, SpentEnd}
use Rattle.request_machine.specs.Kept.{IsKept, Kept}
use Rattle.request_machine.specs.Told.{is_first}
use Rattle.request_machine.specs.Needs.{first_left, need_at, need_of, spent_call}
use Rattle.auth_controller.specs.Serving.{IsServing, has_memory, pending_at}
use Rattle.std.specs.Prelude.{IfSome, is_some, ◌++◌, []}
use Rattle.auth_events.specs.Tables.{AreFew, no_names}
use Rattle.auth_events.specs.Told.{with_told}
use Rattle.std.proofs.lemmas.List.Sums.{fold-append}
use Rattle.auth_events.specs.declared.journal.Call.TheVariants.{Begin, Preempt}
use Rattle.auth_events.specs.declared.journal.Entry.{Entry}
use Rattle.auth_events.specs.declared.journal.Gift.{Gift}
use Rattle.serving_laws.specs.Rooms.{begun}
use Rattle.trace_laws.specs.Lengths.{gives_terms}
use Rattle.auth_events.specs.declared.told.Told.TheVariants.{Made}
use Rattle.auth_events.specs.Book.{IsStep, allowed_call, fits_space, space_of_prompt}
use Rattle.auth_events.specs.Told.{retired_by, told_after}
use Rattle.spaces.specs.Sites.{numbered}
use Rattle.trace_laws.proofs.Givings.{answered_fits, may_of}
use Rattle.trace_rule.specs.Traces.{agrees}
use Rattle.trace_rule.proofs.Knowing.{both_of}
use Rattle.run_rule.specs.Naming.{terms_in, unless_zero}
use Rattle.book_laws.proofs.Stepping.{adds_after, past-push}
use Rattle.serving_laws.specs.Draws.{with_retired}
use Rattle.serving_laws.specs.Meeting.{Pending, none_pending}
use Rattle.serving_laws.specs.Service.{IsServed}
use Rattle.serving_laws.proofs.Named.{call_has}
use Rattle.serving_laws.proofs.Naming.{IsPendingFor, fit_terms}
use Rattle.serving_laws.proofs.Serving.{called_served, known_still}
use Rattle.spaces.specs.declared.site.Target.TheVariants.{Proxy, Server, Socks}
use Rattle.auth_events.specs.declared.journal.BookReply.TheVariants.{Cancelled, Ended as RequestEnded, Given}
use Rattle.auth_events.specs.Pages.{fits}
use Rattle.request_machine.specs.declared.gave.Gave.TheVariants.{Reply}
use Rattle.request_machine.specs.Gives.{IsReplyTo, call_at, is_cancelled, is_given, is_heard, past_given, past_replied}
use Rattle.auth_controller.proofs.NeedStages.{is_kind, not_it, stage_kind}
use Rattle.auth_controller.specs.Given.{IsReplied}
use Rattle.auth_controller.proofs.Asking.{asked, is_book, is_told, no_ask, no_piece, no_space, no_terms, no_text, now, says, suited_call, suited_text}

module _ (roster : Roster) (before told more : List Told) (first words : List Drawn) (request : Request) (m : Kept) (serving : IsServing roster before told first words request m)
    (call : Call) (reply : BookReply) (need : need_at m m.stage ≡ Some (Book call))
    (is_answer : reply ≡ answer roster (names_told told) (past told) m.number call) (after : more ≡ told_after told (made 1 m.number call reply))
    (legal : IsLegalPast roster (names_told more) (past more)) where
  abbrev entry : Entry
  entry = made 1 m.number call reply

  done : is_pending reply ≡ false
  done = ap is_pending is_answer ∙ is_told roster before told first words request m serving call (asked roster before told first words request m serving call need)

  pushed : more ≡ told ++ Made entry ∷ []
  pushed = after ∙ ap (λ b. cond b told (told ++ Made entry ∷ [])) done

  names_same : names_told more ≡ names_told told
  names_same = ap names_told pushed ∙ fold-append with_told no_names told (Made entry ∷ [])

  past_is : past more ≡ entry ∷ past told
  past_is = ap past pushed ∙ past-push told entry

  legal_here : IsLegalPast roster (names_told told) (entry ∷ past told)
  legal_here = subst (λ (t : Tables). IsLegalPast roster t (entry ∷ past told)) names_same (subst (IsLegalPast roster (names_told more)) past_is legal)

  step : IsStep roster (names_told told) (past told) entry
  step = legal_here.1

  same_call : (c : Call) → Some (Book c) ≡ Some (Book call) → c ≡ call
  same_call c e = cc

  abbrev now_here : Setting
  now_here = setting_of roster m.seed (names_told told) (past told) m.number request

  -- where a call has one reply alone
  same_made : (c : Call) → c ≡ call → Called c (answer roster (names_told told) (past told) m.number c) ∷ m.past ≡ Called call reply ∷ m.past
  same_made c same = ap (λ x. Called x (answer roster (names_told told) (past told) m.number x) ∷ m.past) same ∙ ap (λ r. Called call r ∷ m.past) (sym is_answer)

  -- the reply is one to what was asked for
  module _ (s : Setting) (k : KnowsBook roster m.seed (names_told more) (past more) m.number request s) where
    known_here : KnowsBook roster m.seed (names_told told) (entry ∷ past told) m.number request s
    known_here = subst (λ (t : Tables). KnowsBook roster m.seed t (entry ∷ past told) m.number request s) names_same (subst (λ (l : List Entry). KnowsBook roster m.seed (names_told more) l m.number request s) past_is k)

    suits_for : (stage : Stage) → m.stage ≡ stage → (c : Call) → c ≡ call → ((x : Setting) → KnowsBook roster m.seed (names_told told) (past told) m.number request x → IsPast x m.past × (want x m.past ≡ Calls c)) → IsTrue (suits s m.past c reply)
    suits_for stage is c same next =
        suited_call roster before told first words request m serving c reply next
        (subst (λ x. IsLegalPast roster (names_told told) (made 1 m.number x reply ∷ past told)) (sym same) legal_here) s
        (subst (λ x. KnowsBook roster m.seed (names_told told) (made 1 m.number x reply ∷ past told) m.number request s) (sym same) known_here)

    pub reply_to : (stage : Stage) → m.stage ≡ stage → need_at m stage ≡ Some (Book call) → IsReplyTo s m stage reply
    reply_to (Calling c) is e = suits_for (Calling c) is c (same_call c e) (λ x j. (let y = says roster before told first words request m serving (Calling c) is x j in (y.0.0, y.1)))
    reply_to (Selecting t a b) is e = suits_for (Selecting t a b) is (Select a b) (same_call (Select a b) e) (λ x j. (let y = says roster before told first words request m serving (Selecting t a b) is x j in (y.0.0, y.1)))
    reply_to (Answering p text) is e =
        let some = (now roster before told first words request m serving (Answering p text) is).3 in
        let same : Answer p.number text p.terms ≡ call = same_call (Answer p.number text p.terms) e in
        suited_text roster before told first words request m serving p.number text p.terms reply
        (λ x j. (let y = says roster before told first words request m serving (Answering p text) is x j in (y.0.0, y.1))) some
        (subst (λ x. IsLegalPast roster (names_told told) (made 1 m.number x reply ∷ past told)) (sym same) legal_here) s
        (subst (λ x. KnowsBook roster m.seed (names_told told) (made 1 m.number x reply ∷ past told) m.number request s) (sym same) known_here)
    reply_to (Cancelling p) is e = suits_for (Cancelling p) is (Answer p.number 0 p.terms) (same_call (Answer p.number 0 p.terms) e) (λ x j. (let y = says roster before told first words request m serving (Cancelling p) is x j in (y.0.0, y.1)))
    reply_to (Losing p loss) is e = suits_for (Losing p loss) is (Lose p.number loss) (same_call (Lose p.number loss) e) (λ x j. (let y = says roster before told first words request m serving (Losing p loss) is x j in (y.0.0, y.1)))
    reply_to (Taking p) is e = suits_for (Taking p) is (Take p.number) (same_call (Take p.number) e) (λ x j. (let y = says roster before told first words request m serving (Taking p) is x j in (y.0.0, y.1)))
    reply_to (Rejecting t gift) is e = suits_for (Rejecting t gift) is (Reject gift.space gift.ordinal) (same_call (Reject gift.space gift.ordinal) e) (λ x j. (let y = says roster before told first words request m serving (Rejecting t gift) is x j in (y.0.0, y.1)))
    reply_to (Renewing t gift a) is e = suits_for (Renewing t gift a) is (Renew gift a) (same_call (Renew gift a) e) (λ x j. (let y = says roster before told first words request m serving (Renewing t gift a) is x j in (y.0.0, y.1)))
    reply_to (RenewLast t gift a c) is e = suits_for (RenewLast t gift a c) is (Renew gift a) (same_call (Renew gift a) e) (λ x j. (let y = says roster before told first words request m serving (RenewLast t gift a c) is x j in (y.0.0.is_past, y.1)))
    reply_to (Close c) is e = suits_for (Close c) is (first_left c.proxy c.server) (same_call (first_left c.proxy c.server) e) (λ x j. (let y = says roster before told first words request m serving (Close c) is x j in (y.0.0, y.1)))
    reply_to stage is e = tt

  -- IT IS HEARD

  abbrev behind : Setting
  behind = setting_of roster m.seed (names_told more) (past more) m.number request

  replies : (stage : Stage) → m.stage ≡ stage → need_at m stage ≡ Some (Book call) → IsReplyTo behind m stage reply
  replies = reply_to behind (knows_itself roster m.seed (names_told more) (past more) m.number request)

  fit_of : (c : Call) → IsTrue (suits behind m.past c reply) → fits c reply ≡ true
  fit_of c h = and_left (fits c reply) (agrees behind m.past c reply) h

  if_heard : (stage : Stage) → is_heard stage reply ≡ true → call_at stage ≡ call → cond (is_heard stage reply) (Called (call_at stage) reply ∷ m.past) m.past ≡ Called call reply ∷ m.past
  if_heard stage h same = ap (λ b. cond b (Called (call_at stage) reply ∷ m.past) m.past) h ∙ ap (λ c. Called c reply ∷ m.past) same

  first_heard : (c : Call) → IsTrue (is_first c) → is_heard (Calling c) reply ≡ true
  first_heard Begin f = refl
  first_heard (Preempt Proxy) f = refl
  first_heard (Preempt Server) f = refl
  first_heard (Preempt Socks) f = absurd (false≢true f)
  first_heard c f = absurd (false≢true f)

  given_heard : (p text t : ℕ) (r : BookReply) → IsTrue (suits behind m.past (Answer p text t) r) → IsTrue (not (text == 0)) → is_given r ≡ true
  given_heard p text t (Given gift evicted) h some = refl
  given_heard p text t Cancelled h some = absurd (false≢true (sym (ap not h) ∙ some))
  given_heard p text t r h some = absurd (false≢true h)

  cancel_heard : (p t : ℕ) (r : BookReply) → IsTrue (suits behind m.past (Answer p 0 t) r) → is_cancelled r ≡ true
  cancel_heard p t Cancelled h = refl
  cancel_heard p t r h = absurd (false≢true h)

  spent_heard : (b : Bool) → (m.prompt == 0) ≡ b → cond b CallEnd (Lose m.prompt Memory) ≡ call → cond b (Called CallEnd RequestEnded) (Called (Lose m.prompt Memory) (Lost Memory)) ∷ m.past ≡ Called call reply ∷ m.past
  spent_heard true zero_is e = same_made CallEnd e
  spent_heard false zero_is e = same_made (Lose m.prompt Memory) e

  heard_at : (stage : Stage) → m.stage ≡ stage → need_at m stage ≡ Some (Book call) → past_replied m stage reply ≡ Called call reply ∷ m.past
  heard_at (Calling c) is e = if_heard (Calling c) (first_heard c (subst (IsKept now_here m) is (serving.known now_here (knows_itself roster m.seed (names_told told) (past told) m.number request)).kept)) (same_call c e)
  heard_at (Selecting t a b) is e = if_heard (Selecting t a b) (fit_of (Select a b) (replies (Selecting t a b) is e)) (same_call (Select a b) e)
  heard_at (Answering p text) is e =
      if_heard (Answering p text) (given_heard p.number text p.terms reply (replies (Answering p text) is e) (now roster before told first words request m serving (Answering p text) is).3) (same_call (Answer p.number text p.terms) e)
  heard_at (Cancelling p) is e = if_heard (Cancelling p) (cancel_heard p.number p.terms reply (replies (Cancelling p) is e)) (same_call (Answer p.number 0 p.terms) e)
  heard_at (Losing p loss) is e = if_heard (Losing p loss) (fit_of (Lose p.number loss) (replies (Losing p loss) is e)) (same_call (Lose p.number loss) e)
  heard_at (Taking p) is e = if_heard (Taking p) (fit_of (Take p.number) (replies (Taking p) is e)) (same_call (Take p.number) e)
  heard_at (Rejecting t gift) is e = if_heard (Rejecting t gift) refl (same_call (Reject gift.space gift.ordinal) e)
  heard_at (Renewing t gift a) is e = if_heard (Renewing t gift a) refl (same_call (Renew gift a) e)
  heard_at (RenewLast t gift a c) is e = if_heard (RenewLast t gift a c) refl (same_call (Renew gift a) e)
  heard_at (Close c) is e = if_heard (Close c) refl (same_call (first_left c.proxy c.server) e)
  heard_at Spent is e = spent_heard (m.prompt == 0) refl (same_call (spent_call m.prompt) e)
  heard_at SpentEnd is e = same_made CallEnd (same_call CallEnd e)
  heard_at (Learn t OfSpace) is e = absurd (not_it 0 4 (is_kind m (Learn t OfSpace) (Book call) e) refl)
  heard_at (Learn t OfIdentity) is e = absurd (not_it 0 5 (is_kind m (Learn t OfIdentity) (Book call) e) refl)
  heard_at (Learn t OfTerms) is e = absurd (not_it 0 6 (is_kind m (Learn t OfTerms) (Book call) e) refl)
  heard_at stage is e = absurd (not_it 0 (stage_kind stage) (is_kind m stage (Book call) e) refl)

  pub heard : past_given m (Reply reply) ≡ Called call reply ∷ m.past
  heard = heard_at m.stage refl need

  -- WHAT THE CALL NAMES

  of_terms : (pending : Pending) (c : Call) (s t : ℕ) → pending.terms ≡ None → terms_in c ≡ unless_zero t → IsTrue (fits_space (names_told told) s t)
      → (pending.terms ≡ terms_in c) ⊎ (pending.terms ≡ None) × IfSome (terms_in c) (λ x. IsTrue (is_some (numbered (names_told told).terms x)))
  of_terms pending c s t none_now is fit = inr (none_now, subst (λ o. IfSome o (λ x. IsTrue (is_some (numbered (names_told told).terms x)))) (sym is) (fit_terms (names_told told) s t fit))

  may : (c : Call) → c ≡ call → IsTrue (allowed_call roster (names_told told) (past told) m.number c)
  may c same = subst (λ x. IsTrue (allowed_call roster (names_told told) (past told) m.number x)) (sym same) (may_of roster (names_told told) (past told) entry step)

  none_here : (o : Option Need) → is_book o ≡ false → o ≡ Some (Book call) → ⊥
  none_here o other e = false≢true (sym other ∙ ap is_book e)

  pending_for : (stage : Stage) → m.stage ≡ stage → need_at m stage ≡ Some (Book call) → IsTrue (has_memory stage m.past) → IsPendingFor (names_told told) (pending_at stage) call
  pending_for (Calling c) is e unspent = subst (IsPendingFor (names_told told) none_pending) (same_call c e) (by c (subst (IsKept now_here m) is (serving.known now_here (knows_itself roster m.seed (names_told told) (past told) m.number request)).kept))
    where
      by : (x : Call) → IsTrue (is_first x) → IsPendingFor (names_told told) none_pending x
      by Begin f = record { of_space = inl refl; of_terms = inl refl; of_text = refl }
      by (Preempt target) f = record { of_space = inl refl; of_terms = inl refl; of_text = refl }
      by x f = absurd (false≢true f)
  pending_for (Selecting t a b) is e unspent = subst (IsPendingFor (names_told told) (pending_at (Selecting t a b))) (same_call (Select a b) e) (record { of_space = inl refl; of_terms = inl refl; of_text = refl })
  pending_for (Answering p text) is e unspent =
      subst (IsPendingFor (names_told told) (pending_at (Answering p text))) (same_call (Answer p.number text p.terms) e)
      (record {
        of_space = inl refl;
        of_terms = of_terms (pending_at (Answering p text)) (Answer p.number text p.terms) (space_of_prompt (past told) p.number) p.terms refl refl
            (answered_fits roster (names_told told) (past told) serving.served.alone.legal m.number p.number text p.terms (may (Answer p.number text p.terms) (same_call (Answer p.number text p.terms) e)));
        of_text = refl;
      })
  pending_for (Cancelling p) is e unspent =
      subst (IsPendingFor (names_told told) none_pending) (same_call (Answer p.number 0 p.terms) e)
      (record {
        of_space = inl refl;
        of_terms = of_terms none_pending (Answer p.number 0 p.terms) (space_of_prompt (past told) p.number) p.terms refl refl
            (answered_fits roster (names_told told) (past told) serving.served.alone.legal m.number p.number 0 p.terms (may (Answer p.number 0 p.terms) (same_call (Answer p.number 0 p.terms) e)));
        of_text = refl;
      })
  pending_for (Losing p loss) is e unspent = subst (IsPendingFor (names_told told) none_pending) (same_call (Lose p.number loss) e) (record { of_space = inl refl; of_terms = inl refl; of_text = refl })
  pending_for (Taking p) is e unspent = subst (IsPendingFor (names_told told) none_pending) (same_call (Take p.number) e) (record { of_space = inl refl; of_terms = inl refl; of_text = refl })
  pending_for (Rejecting t gift) is e unspent =
      subst (IsPendingFor (names_told told) none_pending) (same_call (Reject gift.space gift.ordinal) e)
      (record { of_space = inr (refl, rejected_named); of_terms = inl refl; of_text = refl })
    where
      rejected_named : IsTrue (is_some (numbered (names_told told).spaces gift.space))
      rejected_named =
          subst (λ (x : Tables). IsTrue (is_some (numbered x.spaces gift.space))) names_same
          ((both_of (is_some (behind.space_of gift.space)) _ (both_of _ (agrees behind m.past (Reject gift.space gift.ordinal) reply) (replies (Rejecting t gift) is e)).1).0)
  pending_for (Renewing t gift a) is e unspent = subst (IsPendingFor (names_told told) (pending_at (Renewing t gift a))) (same_call (Renew gift a) e) (record { of_space = inl refl; of_terms = inl refl; of_text = refl })
  pending_for (RenewLast t gift a c) is e unspent = subst (IsPendingFor (names_told told) (pending_at (RenewLast t gift a c))) (same_call (Renew gift a) e) (record { of_space = inl refl; of_terms = inl refl; of_text = refl })
  pending_for (Close c) is e unspent = subst (IsPendingFor (names_told told) none_pending) (same_call (first_left c.proxy c.server) e) (closes c.proxy c.server)
    where
      closes : (proxy server : Option Gift) → IsPendingFor (names_told told) none_pending (first_left proxy server)
      closes None None = record { of_space = inl refl; of_terms = inl refl; of_text = refl }
      closes None (Some gift) = record { of_space = inl refl; of_terms = inl refl; of_text = refl }
      closes (Some gift) server = record { of_space = inl refl; of_terms = inl refl; of_text = refl }
  pending_for Spent is e unspent = absurd (false≢true unspent)
  pending_for SpentEnd is e unspent = absurd (false≢true unspent)
  pending_for (NameSpace t) is e unspent = absurd (none_here (option_map SpaceNo m.unnamed_space) (no_space m.unnamed_space) e)
  pending_for (NameTerms t a) is e unspent = absurd (none_here (option_map (TermsNo a) m.unnamed_terms) (no_terms a m.unnamed_terms) e)
  pending_for (NameRenewal t gift) is e unspent = absurd (none_here (option_map (TermsNo gift.space) m.unnamed_terms) (no_terms gift.space m.unnamed_terms) e)
  pending_for (NameLast t gift c) is e unspent = absurd (none_here (option_map (TermsNo gift.space) m.unnamed_terms) (no_terms gift.space m.unnamed_terms) e)
  pending_for (NameText p) is e unspent = absurd (none_here (option_map TextNo m.given) (no_text m.given) e)
  pending_for (Learn t piece) is e unspent = absurd (none_here (option_map (need_of piece) (holding m t)) (no_piece piece (holding m t)) e)
  pending_for (Ask p ordinal) is e unspent = absurd (none_here (if is_some m.space then None else Some (SpaceOf p.space)) (no_ask p.space m.space) e)
  pending_for stage is e unspent = absurd (none_here (need_at m stage) refl e)

  -- what gives terms is pending for a call that does
  gives_for : (stage : Stage) → need_at m stage ≡ Some (Book call) → IsTrue (is_some (pending_at stage).terms) → IsTrue (gives_terms call)
  gives_for (Selecting t a b) e some = ap gives_terms (sym (same_call (Select a b) e))
  gives_for (Renewing t gift a) e some = ap gives_terms (sym (same_call (Renew gift a) e))
  gives_for (RenewLast t gift a c) e some = ap gives_terms (sym (same_call (Renew gift a) e))
  gives_for stage e some = absurd (false≢true some)

  -- the machine is served on
  pub replied_serving : (n : Kept) → IsReplied call reply m n → (out : ℕ) → out ≡ retired_by (names_told told) (past told) entry → out ≤ length words → IsServing roster before more first (with_retired words out) request n
  replied_serving n replied out out_is within = record {
    served =
        subst (λ x. IsServed roster before more first (with_retired words out) x request n.past) (sym replied.number)
        (subst (λ l. IsServed roster before more first (with_retired words out) m.number request l) (sym replied.past)
        (called_served roster before first m.number request told more words m.past call reply out serving.served after done out_is within legal));
    known = λ s k.
        let k' : KnowsBook roster m.seed (names_told more) (past more) m.number request s =
        subst (λ x. KnowsBook roster m.seed (names_told more) (past more) x request s) replied.number (subst (λ x. KnowsBook roster x (names_told more) (past more) n.number request s) replied.seed k) in
        replied.ties s (reply_to s k' m.stage refl need) (serving.known s (known_still roster m.seed told more m.number request s (adds_after told more entry after) legal k'));
    few_before = serving.few_before;
    few = subst (AreFew (begun (past before) + 1)) (sym names_same) serving.few;
    few_draws = serving.few_draws;
    named = λ u.
        let h = replied.unspent u in
        let has = call_has (names_told before) (names_told told) m.number m.past (pending_at m.stage) (serving.named h.0) call reply (pending_for m.stage refl need h.0) (gives_for m.stage need) in
        subst (λ x. HasNamed (names_told before) (names_told more) n.number n.past x) (sym h.1)
        (subst (λ l. HasNamed (names_told before) (names_told more) n.number l none_pending) (sym replied.past)
        (subst (λ x. HasNamed (names_told before) (names_told more) x (Called call reply ∷ m.past) none_pending) (sym replied.number)
        (subst (λ t. HasNamed (names_told before) t m.number (Called call reply ∷ m.past) none_pending) (sym names_same) has)));
  }
