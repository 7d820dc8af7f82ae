-- The texts by which a request answers its prompts are those of the prompter's answers, step by step.
use Rattle.std.proofs.Common.{◌≡◌, ◌⊎◌, inl, inr, ℕ, ◌<◌, ◌==◌, Bool, true, false, IsTrue, List, [], ◌∷◌, length, drop, Option, Some, None, is_some, option_map, unwrap_or, refl, sym, ap, ◌∙◌, subst, if◌then◌else◌}
use Rattle.std.specs.Prelude.{IsSome}
use Rattle.std.proofs.lemmas.Bool.{false≢true}
use Rattle.auth_text.specs.Login.{Login}
use Rattle.spaces.specs.ProtectionSpaces.{ProtectionSpace}
use Rattle.spaces.specs.Sites.{numbered}
use Rattle.spaces.specs.declared.site.Target.TheVariants.{Proxy, Server}
use Rattle.auth_events.specs.declared.journal.BookReply.{BookReply}
use Rattle.auth_events.specs.declared.journal.BookReply.TheVariants.{Ended as RequestEnded, Lost}
use Rattle.auth_events.specs.declared.journal.Call.{Call}
use Rattle.auth_events.specs.declared.journal.Call.TheVariants.{Answer, Begin, Preempt, Lose, End as CallEnd}
use Rattle.auth_events.specs.declared.journal.Gift.{Gift}
use Rattle.auth_events.specs.declared.journal.Loss.TheVariants.{Memory}
use Rattle.auth_events.specs.Tables.{Tables}
use Rattle.auth_events.proofs.Numbers.{numbered-append}
use Rattle.link_trait.specs.declared.prompts.Ask.{Ask as Asked}
use Rattle.link_trait.specs.declared.prompts.AskSeen.TheVariants.{Cancel}
use Rattle.auth_runs.specs.declared.event.Event.{Event}
use Rattle.auth_runs.specs.declared.event.Event.TheVariants.{Called, Drew, AskedFor}
use Rattle.auth_runs.specs.declared.event.Outcome.{Outcome}
use Rattle.auth_runs.specs.Runs.{Each}
use Rattle.book_laws.proofs.Growing.{NamesGrow}
use Rattle.trace_rule.specs.Settings.{Setting}
use Rattle.trace_rule.specs.Closings.{carried_out, closings, closings_made, is_closing, next_closing, want}
use Rattle.trace_rule.specs.Moves.{Move, Want, move, terms_led}
use Rattle.trace_rule.specs.Moves.Move.{Closes, Goes}
use Rattle.trace_rule.specs.Moves.Want.{Answers, Calls}
use Rattle.trace_rule.specs.Telling.{ask_led_by, ask_of}
use Rattle.trace_rule.specs.Traces.{IsPast}
use Rattle.trace_rule.proofs.AtEnd.{each_drop}
use Rattle.trace_rule.proofs.Reasons.{IsClosingIf, Reason, closing_never, closings_closing, reason}
use Rattle.trace_rule.proofs.Reasons.Reason.{begins, preempts, preempts_server, selects, is_rejected, is_renewed, cancels, loses, takes}
use Rattle.trace_rule.proofs.Waiting.{given_behind}
use Rattle.request_machine.specs.declared.gave.Gave.{Gave}
use Rattle.request_machine.specs.declared.gave.Gave.TheVariants.{Reply, Number, Drawn as CountGiven}
use Rattle.request_machine.specs.declared.stage.Stage.{Stage}
use Rattle.request_machine.specs.declared.stage.Stage.TheVariants.{Call as Calling, Draw, NameSpace, NameTerms, Select as Selecting, NameText, Answer as Answering, Cancel as Cancelling, Close, Spent, SpentEnd}
use Rattle.request_machine.specs.Driven.{insides}
use Rattle.request_machine.specs.Gives.{is_cancelled, is_given, is_heard, call_at, past_drawn, past_given, past_replied}
use Rattle.request_machine.specs.Kept.{IsKept, IsStage, Kept, Ties}
use Rattle.request_machine.specs.Needs.{first_left}
use Rattle.request_machine.specs.Prompted.{AreAnswered, HasGiven, IsAnsweredBy, answer_at, answer_to_first}
use Rattle.request_machine.specs.Turns.{IsStill, is_asking}
use Rattle.request_machine.specs.Work.{is_answer, is_waiting, stage_told}
use Rattle.auth_controller.specs.Answering.{IsGivenAs}
use Rattle.auth_controller.specs.Texts.{AreTextsOf, AreTextsTold, IsTextAt, IsTextGiven, IsTextOf}

-- WHERE A TEXT IS WANTED

-- a call that is none at the end is what comes next by the table
call_moves : (s : Setting) (past : List Event) (call : Call) → is_closing s past call ≡ false → want s past ≡ Calls call → move s past ≡ Goes (Calls call)
call_moves s past call going wanted = at (move s past) refl wanted
  where
    is_calls : Want → Bool
    is_calls (Calls c) = true
    is_calls _ = false

    at_list : (o : Outcome) (cs : List (Option Call)) → Each (IsClosingIf s past) cs → next_closing o cs ≡ Calls call → move s past ≡ Goes (Calls call)
    at_list o [] each e = absurd (false≢true (ap is_calls e))
    at_list o (None ∷ cs) each e = absurd (false≢true (ap is_calls e))
    at_list o (Some c ∷ cs) each e = absurd (false≢true (sym going ∙ subst (λ x. is_closing s past x ≡ true) (let same : c ≡ call = cc in same) each.0))

    at : (m : Move) → move s past ≡ m → carried_out s past m ≡ Calls call → move s past ≡ Goes (Calls call)
    at (Goes w) is e = is ∙ ap Goes e
    at (Closes o) is e = at_list o (drop (closings_made s past) (closings s past o)) (each_drop (IsClosingIf s past) (closings_made s past) (closings s past o) (closings_closing s past o)) e

answers_move : (s : Setting) (past : List Event) (p t : ℕ) → want s past ≡ Answers p t → move s past ≡ Goes (Answers p t)
answers_move s past p t wanted = at (move s past) refl wanted
  where
    is_answers : Want → Bool
    is_answers (Answers q k) = true
    is_answers _ = false

    at_list : (o : Outcome) (cs : List (Option Call)) → next_closing o cs ≡ Answers p t → move s past ≡ Goes (Answers p t)
    at_list o [] e = absurd (false≢true (ap is_answers e))
    at_list o (None ∷ cs) e = absurd (false≢true (ap is_answers e))
    at_list o (Some c ∷ cs) e = absurd (false≢true (ap is_answers e))

    at : (m : Move) → move s past ≡ m → carried_out s past m ≡ Answers p t → move s past ≡ Goes (Answers p t)
    at (Goes w) is e = is ∙ ap Goes e
    at (Closes o) is e = at_list o (drop (closings_made s past) (closings s past o)) e

abbrev prompt_in : Call → Option ℕ
prompt_in (Answer p text terms) = Some p
prompt_in _ = None

-- a cancel is told right behind it
cancelled_behind : (s : Setting) (past : List Event) (p t : ℕ) → IsPast s past → want s past ≡ Calls (Answer p 0 t) → (b : List Event) × (past ≡ AskedFor p Cancel ∷ b)
cancelled_behind s past p t run wanted = at (reason s past run (Answer p 0 t) (call_moves s past (Answer p 0 t) refl wanted))
  where
    none : (call : Call) → Answer p 0 t ≡ call → prompt_in call ≡ None → (b : List Event) × (past ≡ AskedFor p Cancel ∷ b)
    none call e nowhere = absurd (false≢true (ap is_some (sym nowhere ∙ sym (ap prompt_in e))))

    at : Reason s past (Answer p 0 t) → (b : List Event) × (past ≡ AskedFor p Cancel ∷ b)
    at (begins is e) = none Begin e refl
    at (preempts reply before is e) = none _ e refl
    at (preempts_server reply before is e) = none _ e refl
    at (selects space terms e choice behind) = none _ e refl
    at (is_rejected event before target h is holds e behind) = none _ e refl
    at (is_renewed link reply before target h offered terms number is holds decides has named e behind) = none _ e refl
    at (cancels q before is e) = (before, is ∙ ap (λ x. AskedFor x Cancel ∷ before) (same q (terms_led before q) e))
      where
        same : (x n : ℕ) → Answer p 0 t ≡ Answer x 0 n → x ≡ p
        same x n k = let some : Some p ≡ Some x = ap prompt_in k in cc
    at (loses q seen loss before is e) = none _ e refl
    at (takes call q before is e) = none _ e refl

module _ (s : Setting) (answers : ProtectionSpace → ℕ → Option Login) where
  -- ON CALLS ALONE

  ask_inside : (past : List Event) (p : ℕ) → ask_of s (insides past) p ≡ ask_of s past p
  ask_inside [] p = refl
  ask_inside (Called call reply ∷ past) p = ap (unwrap_or (option_map (λ (ask : Asked). ask ∷ []) (ask_led_by s p (Called call reply)))) (ask_inside past p)
  ask_inside (Drew target nonce count epoch ∷ past) p = ask_inside past p
  ask_inside (_ ∷ past) p = ask_inside past p

  answer_inside : (past : List Event) (p : ℕ) → answer_at s answers (insides past) p ≡ answer_at s answers past p
  answer_inside past p = ap (answer_to_first answers) (ask_inside past p)

  into : (names : Tables) (past : List Event) → AreTextsOf s answers names past → AreTextsOf s answers names (insides past)
  into names [] a = a
  into names (Called (Answer p text terms) reply ∷ past) a = (into names past a.0, subst (IsTextOf names text) (sym (answer_inside past p)) a.1)
  into names (Called _ reply ∷ past) a = into names past a
  into names (Drew target nonce count epoch ∷ past) a = into names past a
  into names (_ ∷ past) a = into names past a

  out_of : (names : Tables) (past : List Event) → AreTextsOf s answers names (insides past) → AreTextsOf s answers names past
  out_of names [] a = a
  out_of names (Called (Answer p text terms) reply ∷ past) a = (out_of names past a.0, subst (IsTextOf names text) (answer_inside past p) a.1)
  out_of names (Called _ reply ∷ past) a = out_of names past a
  out_of names (Drew target nonce count epoch ∷ past) a = out_of names past a
  out_of names (_ ∷ past) a = out_of names past a

  texts_inside : (names : Tables) (old now : List Event) → insides old ≡ insides now → AreTextsOf s answers names old → AreTextsOf s answers names now
  texts_inside names old now same a = out_of names now (subst (AreTextsOf s answers names) same (into names old a))

  -- WITH MORE NAMES

  module _ (names more : Tables) (grow : NamesGrow names more) where
    text_stays : (text : ℕ) (answer : Option Login) → IsTextOf names text answer → IsTextOf more text answer
    text_stays text None is = is
    text_stays text (Some login) is = subst (λ l. numbered l text ≡ Some login) (sym grow.texts) (numbered-append names.texts grow.new_texts text (ap is_some is) ∙ is)

    texts_stay : (past : List Event) → AreTextsOf s answers names past → AreTextsOf s answers more past
    texts_stay [] a = a
    texts_stay (Called (Answer p text terms) reply ∷ past) a = (texts_stay past a.0, text_stays text (answer_at s answers past p) a.1)
    texts_stay (Called _ reply ∷ past) a = texts_stay past a
    texts_stay (_ ∷ past) a = texts_stay past a

    text_at_stays : (past : List Event) (stage : Stage) → IsTextAt s answers names past stage → IsTextAt s answers more past stage
    text_at_stays past (Answering p text) is = text_stays text (answer_at s answers past p.number) is
    text_at_stays past _ is = tt

    pub told_stays : (m : Kept) → AreTextsTold s answers names m → AreTextsTold s answers more m
    told_stays m a = record { made = texts_stay m.past a.made; next = text_at_stays m.past m.stage a.next }

  -- where no number waits no text does
  free_text : (names : Tables) (past : List Event) (stage : Stage) → is_waiting stage ≡ false → IsTextAt s answers names past stage
  free_text names past (Answering p text) free = absurd (false≢true (sym free))
  free_text names past _ free = tt

  -- AT FIRST

  pub first_texts : (names : Tables) (m : Kept) (call : Call) → m.past ≡ [] → m.stage ≡ Calling call → AreTextsTold s answers names m
  first_texts names m call none stage = record {
    made = subst (AreTextsOf s answers names) (sym none) tt;
    next = subst (IsTextAt s answers names m.past) (sym stage) tt;
  }

  -- BY ITSELF

  pub stepped_texts : (names : Tables) (m n : Kept) → insides n.past ≡ insides m.past → (is_asking m ≡ true → (n.past ≡ m.past) × IsStill m n) → (is_asking m ≡ false → is_waiting n.stage ≡ false)
      → AreTextsTold s answers names m → AreTextsTold s answers names n
  stepped_texts names m n same still free a = record { made = texts_inside names m.past n.past (sym same) a.made; next = at (is_asking m) refl }
    where
      stays : n.past ≡ m.past → IsStill m n → IsTextAt s answers names n.past n.stage
      stays past (inl is) = subst (IsTextAt s answers names n.past) (sym (ap (λ (k : Kept). k.stage) is)) (subst (λ l. IsTextAt s answers names l m.stage) (sym past) a.next)
      stays past (inr spent) = subst (IsTextAt s answers names n.past) (sym spent) tt

      at : (b : Bool) → is_asking m ≡ b → IsTextAt s answers names n.past n.stage
      at true asks = let it = still asks in stays it.0 it.1
      at false idle = free_text names n.past n.stage (free idle)

  -- BY WHAT IS TOLD

  module _ (names : Tables) (m : Kept) (ties : Ties s m) (answered : IsAnsweredBy s answers m) (a : AreTextsTold s answers names m) where
    -- the cancelled prompt has no answer
    none_given : (p t : ℕ) → IsPast s m.past → want s m.past ≡ Calls (Answer p 0 t) → answer_at s answers m.past p ≡ None
    none_given p t run wanted =
        let behind = cancelled_behind s m.past p t run wanted in
        ap (λ l. answer_at s answers l p) behind.1 ∙ (subst (AreAnswered s answers) behind.1 answered.seen).1

    -- what was given is the prompt's answer
    given_so : (p t : ℕ) → IsPast s m.past → want s m.past ≡ Answers p t → m.given ≡ answer_at s answers m.past p
    given_so p t run wanted =
        let moves = answers_move s m.past p t wanted in
        let behind = given_behind s m.past p t moves (closing_never s m.past (Answers p t) run moves) in
        subst (λ l. HasGiven s answers l m.given) behind.1 answered.given ∙ sym (ap (λ l. answer_at s answers l p) behind.1)

    replied_texts : (reply : BookReply) (x : Stage) → m.stage ≡ x → AreTextsOf s answers names (past_replied m x reply)
    replied_texts reply Spent is = at (m.prompt == 0)
      where
        at : (b : Bool) → AreTextsOf s answers names ((if b then Called CallEnd RequestEnded else Called (Lose m.prompt Memory) (Lost Memory)) ∷ m.past)
        at true = a.made
        at false = a.made
    replied_texts reply SpentEnd is = a.made
    replied_texts reply (Calling call) is = by call
      where
        by : (c : Call) → AreTextsOf s answers names (if is_heard (Calling c) reply then Called c reply ∷ m.past else m.past)
        by Begin = a.made
        by (Preempt Proxy) = a.made
        by (Preempt Server) = a.made
        by _ = a.made
    replied_texts reply (Answering p text) is = at (is_given reply)
      where
        at : (b : Bool) → AreTextsOf s answers names (if b then Called (Answer p.number text p.terms) reply ∷ m.past else m.past)
        at true = (a.made, subst (IsTextAt s answers names m.past) is a.next)
        at false = a.made
    replied_texts reply (Cancelling p) is = at (is_cancelled reply)
      where
        none : IsTextOf names 0 (answer_at s answers m.past p.number)
        none = let stands = subst (IsStage s m.past) is ties.stage in subst (IsTextOf names 0) (sym (none_given p.number p.terms stands.0 stands.1)) refl

        at : (b : Bool) → AreTextsOf s answers names (if b then Called (Answer p.number 0 p.terms) reply ∷ m.past else m.past)
        at true = (a.made, none)
        at false = a.made
    replied_texts reply (Close c) is = by c.proxy c.server
      where
        by : (proxy server : Option Gift) → AreTextsOf s answers names (Called (first_left proxy server) reply ∷ m.past)
        by None None = a.made
        by None (Some gift) = a.made
        by (Some gift) server = a.made
    replied_texts reply x is = heard (is_heard x reply) (call_at x) refl
      where
        other : (call : Call) → prompt_in call ≡ None → AreTextsOf s answers names (Called call reply ∷ m.past)
        other (Answer p text terms) nowhere = absurd (false≢true (sym (ap is_some nowhere)))
        other _ nowhere = a.made

        heard : (b : Bool) (call : Call) → prompt_in call ≡ None → AreTextsOf s answers names (if b then Called call reply ∷ m.past else m.past)
        heard true call nowhere = other call nowhere
        heard false call nowhere = a.made

    given_past : (gave : Gave) → AreTextsOf s answers names (past_given m gave)
    given_past (Reply reply) = replied_texts reply m.stage refl
    given_past (CountGiven drawn) = drew m.stage
      where
        drew : (x : Stage) → AreTextsOf s answers names (past_drawn m x drawn)
        drew (Draw Proxy nonce) = a.made
        drew (Draw Server nonce) = a.made
        drew _ = a.made
    given_past _ = a.made

    given_stage : (gave : Gave) (x : Stage) → m.stage ≡ x → IsTrue (is_answer x gave) → IsTextGiven names m x gave → IsTextAt s answers names (past_given m gave) (stage_told m x gave)
    given_stage (Number n) (NameText p) is heard text =
        let stands = subst (IsStage s m.past) is ties.stage in
        subst (IsTextOf names n) (given_so p.number p.terms stands.0 stands.1) (of_given m.given text (subst (IsKept s m) is ties.kept))
      where
        of_given : (o : Option Login) → numbered names.texts n ≡ o → IsSome o → IsTextOf names n o
        of_given None found some = absurd (false≢true some)
        of_given (Some login) found some = found
    given_stage (Number n) (NameSpace t) is heard text = at (is_some m.unnamed_terms)
      where
        at : (b : Bool) → IsTextAt s answers names m.past (if b then NameTerms t n else Selecting t n 0)
        at true = tt
        at false = tt
    given_stage gave (Answering p text) is heard none = absurd (false≢true heard)
    given_stage _ _ is heard text = tt

    pub given_texts : (n : Kept) (gave : Gave) → IsGivenAs gave m n → IsTextGiven names m m.stage gave → IsTrue (is_answer m.stage gave) ⊎ (length m.past < length n.past) → AreTextsTold s answers names n
    given_texts n gave given text heard = record {
      made = subst (AreTextsOf s answers names) (sym given.past) (given_past gave);
      next = at heard;
    }
      where
        at : IsTrue (is_answer m.stage gave) ⊎ (length m.past < length n.past) → IsTextAt s answers names n.past n.stage
        at (inl told) =
            subst (IsTextAt s answers names n.past) (sym (given.stage told))
            (subst (λ l. IsTextAt s answers names l (stage_told m m.stage gave)) (sym given.past) (given_stage gave m.stage refl told text))
        at (inr grew) = free_text names n.past n.stage (given.free grew)

-- A NUMBER OF A TEXT

abbrev pub is_number : Gave → Bool
is_number (Number n) = true
is_number gave = false

-- what is no number names no text
pub no_text : (names : Tables) (m : Kept) (x : Stage) (gave : Gave) → is_number gave ≡ false → IsTextGiven names m x gave
no_text names m (NameText p) (Number n) without = absurd (false≢true (sym without))
no_text names m _ _ without = tt
