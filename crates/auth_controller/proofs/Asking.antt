-- What the machine asks of the book may be asked, and is answered so that the rule takes it.
use Rattle.std.proofs.Common.{◌≡◌, ℕ, ◌+◌, ◌≤◌, Bool, true, false, not, ◌==◌, cond, IsTrue, List, ◌∷◌, length, Option, Some, None, is_some, option_map, refl, if◌then◌else◌, sym, ap, ◌∙◌, subst, arith}
use Rattle.std.proofs.lemmas.Bool.{false≢true, eqb-true}
use Rattle.spaces.specs.declared.roster.Request.{Request}
use Rattle.spaces.specs.declared.roster.Roster.{Roster}
use Rattle.auth_events.specs.declared.journal.BookReply.{BookReply}
use Rattle.auth_events.specs.declared.journal.Call.{Call}
use Rattle.auth_events.specs.declared.journal.Call.TheVariants.{Answer, End as CallEnd, Lose, Reject, Renew, Select, Take}
use Rattle.auth_events.specs.declared.journal.Loss.TheVariants.{Memory}
use Rattle.auth_events.specs.declared.journal.Drawn.{Drawn}
use Rattle.auth_events.specs.declared.told.Told.{Told}
use Rattle.auth_events.specs.Book.{allowed, answer, IsLegalPast}
use Rattle.auth_events.specs.Tables.{Tables}
use Rattle.auth_events.specs.Told.{is_pending, names_told, past}
use Rattle.auth_runs.specs.declared.event.Event.{Event}
use Rattle.auth_runs.specs.declared.event.Event.TheVariants.{Called}
use Rattle.auth_events.specs.declared.journal.BookReply.TheVariants.{Lost}
use Rattle.auth_events.proofs.Numbers.{and_left}
use Rattle.auth_text.specs.Login.{Login}
use Rattle.spaces.specs.declared.terms.Terms.{Terms}
use Rattle.spaces.specs.ProtectionSpaces.{ProtectionSpace}
use Rattle.run_rule.specs.Naming.{text_in}
use Rattle.serving_laws.specs.Alone.{entries_of}
use Rattle.serving_laws.specs.Meeting.{AreMetWith, are_in_turn_behind, numbers_of}
use Rattle.serving_laws.specs.Rooms.{HasNamed}
use Rattle.trace_laws.specs.Answering.{made}
use Rattle.trace_rule.specs.Moves.{Want}
use Rattle.trace_rule.specs.Moves.Want.{Answers, Calls}
use Rattle.trace_rule.specs.Settings.{Setting, setting_of}
use Rattle.trace_rule.specs.Traces.{IsPast, may_cut, prompt_open, suits, with_loss}
use Rattle.serving_laws.specs.Alone.{IsAlone}
use Rattle.serving_laws.specs.Knowing.{KnowsBook}
use Rattle.serving_laws.specs.Taking.{ComesNext}
use Rattle.serving_laws.proofs.Calling.{answer_allowed, answered, call_allowed, call_taken, text_taken}
use Rattle.serving_laws.proofs.Cutting.{spent_end, spent_loss}
use Rattle.serving_laws.proofs.Knowing.{knows_itself}
use Rattle.request_machine.specs.declared.need.Need.{Need}
use Rattle.request_machine.specs.declared.need.Need.TheVariants.{Book, SpaceNo, SpaceOf, TermsNo, TextNo}
use Rattle.request_machine.specs.declared.holding.Holding.{Holding}
use Rattle.request_machine.specs.declared.stage.Piece.{Piece}
use Rattle.request_machine.specs.declared.stage.Piece.TheVariants.{Space as OfSpace, Identity as OfIdentity, Terms as OfTerms}
use Rattle.request_machine.specs.declared.stage.Prompt.{Prompt}
use Rattle.request_machine.specs.Changed.{holding}
use Rattle.request_machine.specs.declared.stage.Stage.{Stage}
use Rattle.request_machine.specs.declared.stage.Stage.TheVariants.{Call as Calling, Learn, NameSpace, NameTerms, Select as Selecting, Ask, NameText, Answer as Answering, Cancel as Cancelling, Lose as Losing, Take as Taking, Reject as Rejecting, NameRenewal, Renew as Renewing, NameLast, RenewLast, Close, Spent, SpentEnd}
use Rattle.request_machine.specs.Kept.{IsSpentAt, IsStage, Kept, Ties}
use Rattle.request_machine.specs.Needs.{IsWantedAt, first_left, need_at, need_of, spent_call}
use Rattle.request_machine.proofs.Needing.{wanted_now}
use Rattle.auth_controller.specs.Serving.{IsServing, has_memory, pending_at}

-- A CALL IS ASKED FOR

abbrev pub is_book : Option Need → Bool
is_book (Some (Book c)) = true
is_book _ = false

pub no_space : (o : Option ProtectionSpace) → is_book (option_map SpaceNo o) ≡ false
no_space None = refl
no_space (Some space) = refl

pub no_terms : (n : ℕ) (o : Option Terms) → is_book (option_map (TermsNo n) o) ≡ false
no_terms n None = refl
no_terms n (Some terms) = refl

pub no_text : (o : Option Login) → is_book (option_map TextNo o) ≡ false
no_text None = refl
no_text (Some login) = refl

pub no_ask : (n : ℕ) (o : Option ProtectionSpace) → is_book (if is_some o then None else Some (SpaceOf n)) ≡ false
no_ask n None = refl
no_ask n (Some space) = refl

pub no_piece : (piece : Piece) (o : Option Holding) → is_book (option_map (need_of piece) o) ≡ false
no_piece piece None = refl
no_piece OfSpace (Some h) = refl
no_piece OfIdentity (Some h) = refl
no_piece OfTerms (Some h) = refl

module _ (roster : Roster) (before told : List Told) (first words : List Drawn) (request : Request) (m : Kept) (serving : IsServing roster before told first words request m) where
  abbrev names : Tables
  names = names_told told

  abbrev here : Setting
  here = setting_of roster m.seed names (past told) m.number request

  abbrev Next : Want → Type 0
  Next w = ComesNext roster m.seed names (past told) m.number request m.past w

  -- the call that is asked for: one that comes next, the answer to a prompt, or one where memory has run out
  pub data IsAsked (call : Call) : Type 0 where
    wanted : Next (Calls call) → IsAsked call
    texted : (p text t : ℕ) → call ≡ Answer p text t → Next (Answers p t) → IsTrue (not (text == 0)) → text ≤ length names.texts → IsAsked call
    lost : IsPast here m.past → IsTrue (may_cut m.past) → IsTrue (not (prompt_open m.past m.past == 0)) → call ≡ Lose (prompt_open m.past m.past) Memory → IsAsked call
    ended : (base : List Event) → IsPast here base → IsTrue (may_cut base) → m.past ≡ with_loss (prompt_open base base) base → call ≡ CallEnd → IsAsked call

  -- what each setting says of the stage
  pub says : (stage : Stage) → m.stage ≡ stage → (s : Setting) → KnowsBook roster m.seed names (past told) m.number request s → IsStage s m.past stage × IsWantedAt s m stage
  says stage is s k =
      let t : Ties s m = serving.known s k in
      (subst (IsStage s m.past) is t.stage, subst (IsWantedAt s m) is (wanted_now s m t))

  pub now : (stage : Stage) → m.stage ≡ stage → IsStage here m.past stage
  now stage is = (says stage is here (knows_itself roster m.seed names (past told) m.number request)).0

  -- a text that is pending is the last one that was named
  pub text_named : (p : Prompt) (text : ℕ) → m.stage ≡ Answering p text → IsTrue (not (text == 0)) → text ≤ length names.texts
  text_named p text is some = at (text == 0) refl some (serving.named (subst (λ x. IsTrue (has_memory x m.past)) (sym is) refl))
    where
      at : (b : Bool) → (text == 0) ≡ b → IsTrue (not b) → HasNamed (names_told before) names m.number m.past (pending_at m.stage) → text ≤ length names.texts
      at true zero_is h has = absurd (false≢true h)
      at false zero_is h has =
          let numbers = numbers_of text_in (entries_of m.number m.past) in
          let pending : pending_at m.stage ≡ record { space = None; terms = None; text = Some text } = ap pending_at is ∙ ap (λ o. record { space = None; terms = None; text = o }) (ap (λ b. cond b None (Some text)) zero_is) in
          let met = subst (AreMetWith (names_told before) names (entries_of m.number m.past)) pending has.met in
          let turn : text ≡ length (names_told before).texts + length numbers + 1 = eqb-true text (length (names_told before).texts + length numbers + 1) (and_left (text == length (names_told before).texts + length numbers + 1) (are_in_turn_behind (length (names_told before).texts) numbers) met.in_turn) in
          omega (arith, turn, met.texts)

  pub asked : (call : Call) → need_at m m.stage ≡ Some (Book call) → IsAsked call
  asked call need = by m.stage refl need
    where
      same_call : (c : Call) → Some (Book c) ≡ Some (Book call) → c ≡ call
      same_call c e = cc

      next : (c : Call) → c ≡ call → Next (Calls c) → IsAsked call
      next c same comes = wanted (subst (λ x. Next (Calls x)) same comes)

      none : (o : Option Need) → is_book o ≡ false → o ≡ Some (Book call) → IsAsked call
      none o other e = absurd (false≢true (sym other ∙ ap is_book e))

      spent : m.stage ≡ Spent → (b : Bool) → (m.prompt == 0) ≡ b → cond b CallEnd (Lose m.prompt Memory) ≡ call → IsAsked call
      spent is true zero_is e =
          let at : IsSpentAt here m.past = now Spent is in
          let prompt : prompt_open m.past m.past ≡ m.prompt = (serving.known here (knows_itself roster m.seed names (past told) m.number request)).prompt in
          ended m.past at.is_past at.may_cut (sym (ap (λ b. if b then m.past else Called (Lose (prompt_open m.past m.past) Memory) (Lost Memory) ∷ m.past) (ap (λ n. n == 0) prompt ∙ zero_is))) (sym e)
      spent is false zero_is e =
          let at : IsSpentAt here m.past = now Spent is in
          let prompt : prompt_open m.past m.past ≡ m.prompt = (serving.known here (knows_itself roster m.seed names (past told) m.number request)).prompt in
          lost at.is_past at.may_cut (ap not (ap (λ n. n == 0) prompt ∙ zero_is)) (sym e ∙ ap (λ n. Lose n Memory) (sym prompt))

      by : (stage : Stage) → m.stage ≡ stage → need_at m stage ≡ Some (Book call) → IsAsked call
      by (Calling c) is e = next c (same_call c e) (λ s k. (let x = says (Calling c) is s k in (x.0.0, x.1)))
      by (Selecting t n k) is e = next (Select n k) (same_call (Select n k) e) (λ s j. (let x = says (Selecting t n k) is s j in (x.0.0, x.1)))
      by (Answering p text) is e =
          let some = (now (Answering p text) is).3 in
          texted p.number text p.terms (sym (same_call (Answer p.number text p.terms) e)) (λ s k. (let x = says (Answering p text) is s k in (x.0.0, x.1))) some (text_named p text is some)
      by (Cancelling p) is e = next (Answer p.number 0 p.terms) (same_call (Answer p.number 0 p.terms) e) (λ s k. (let x = says (Cancelling p) is s k in (x.0.0, x.1)))
      by (Losing p loss) is e = next (Lose p.number loss) (same_call (Lose p.number loss) e) (λ s k. (let x = says (Losing p loss) is s k in (x.0.0, x.1)))
      by (Taking p) is e = next (Take p.number) (same_call (Take p.number) e) (λ s k. (let x = says (Taking p) is s k in (x.0.0, x.1)))
      by (Rejecting t gift) is e = next (Reject gift.space gift.ordinal) (same_call (Reject gift.space gift.ordinal) e) (λ s k. (let x = says (Rejecting t gift) is s k in (x.0.0, x.1)))
      by (Renewing t gift k) is e = next (Renew gift k) (same_call (Renew gift k) e) (λ s j. (let x = says (Renewing t gift k) is s j in (x.0.0, x.1)))
      by (RenewLast t gift k c) is e = next (Renew gift k) (same_call (Renew gift k) e) (λ s j. (let x = says (RenewLast t gift k c) is s j in (x.0.0.is_past, x.1)))
      by (Close c) is e = next (first_left c.proxy c.server) (same_call (first_left c.proxy c.server) e) (λ s k. (let x = says (Close c) is s k in (x.0.0, x.1)))
      by Spent is e = spent is (m.prompt == 0) refl (same_call (spent_call m.prompt) e)
      by SpentEnd is e =
          let at = now SpentEnd is in
          ended at.0 at.1.is_past at.1.may_cut at.2 (sym (same_call CallEnd e))
      by (NameSpace t) is e = none (option_map SpaceNo m.unnamed_space) (no_space m.unnamed_space) e
      by (NameTerms t n) is e = none (option_map (TermsNo n) m.unnamed_terms) (no_terms n m.unnamed_terms) e
      by (NameRenewal t gift) is e = none (option_map (TermsNo gift.space) m.unnamed_terms) (no_terms gift.space m.unnamed_terms) e
      by (NameLast t gift c) is e = none (option_map (TermsNo gift.space) m.unnamed_terms) (no_terms gift.space m.unnamed_terms) e
      by (NameText p) is e = none (option_map TextNo m.given) (no_text m.given) e
      by (Learn t piece) is e = none (option_map (need_of piece) (holding m t)) (no_piece piece (holding m t)) e
      by (Ask p ordinal) is e = none (if is_some m.space then None else Some (SpaceOf p.space)) (no_ask p.space m.space) e
      by stage is e = none (need_at m stage) refl e

  -- it may be asked
  pub may_ask : (call : Call) → IsAsked call → IsTrue (allowed roster names (past told) 1 m.number call)
  may_ask call (wanted next) = call_allowed roster m.seed names (past before) (past told) m.number request m.past serving.served.alone call next
  may_ask call (texted p text t same next some named) =
      subst (λ c. IsTrue (allowed roster names (past told) 1 m.number c)) (sym same)
      (answer_allowed roster m.seed names (past before) (past told) m.number request m.past serving.served.alone p text t next named)
  may_ask call (lost run may some same) =
      subst (λ c. IsTrue (allowed roster names (past told) 1 m.number c)) (sym same)
      (spent_loss roster m.seed names (past before) (past told) m.number request m.past run may serving.served.alone some)
  may_ask call (ended base run may is same) =
      subst (λ c. IsTrue (allowed roster names (past told) 1 m.number c)) (sym same)
      (spent_end roster m.seed names (past before) (past told) m.number request base run may (subst (IsAlone roster names (past before) (past told) m.number request) is serving.served.alone))

  -- it has its reply at once
  pub is_told : (call : Call) → IsAsked call → is_pending (answer roster names (past told) m.number call) ≡ false
  is_told call is = answered roster m.seed names (past before) (past told) m.number request m.past serving.served.alone call (may_ask call is)

  -- which suits the call by each setting that knows the book then
  pub suited_call : (call : Call) (reply : BookReply) → Next (Calls call) → IsLegalPast roster names (made 1 m.number call reply ∷ past told)
      → (s : Setting) → KnowsBook roster m.seed names (made 1 m.number call reply ∷ past told) m.number request s → IsTrue (suits s m.past call reply)
  suited_call call reply next legal s k = (call_taken roster m.seed names (past before) (past told) m.number request m.past serving.served.alone call reply legal next).suited s k

  pub suited_text : (p text t : ℕ) (reply : BookReply) → Next (Answers p t) → IsTrue (not (text == 0)) → IsLegalPast roster names (made 1 m.number (Answer p text t) reply ∷ past told)
      → (s : Setting) → KnowsBook roster m.seed names (made 1 m.number (Answer p text t) reply ∷ past told) m.number request s → IsTrue (suits s m.past (Answer p text t) reply)
  suited_text p text t reply next some legal s k =
      (text_taken roster m.seed names (past before) (past told) m.number request m.past serving.served.alone p text t reply legal next some).suited s k
