-- Two runs that agree up to a moment agree on what comes next.
use Rattle.std.proofs.Common.{◌≡◌, ℕ, ◌+◌, ◌≤◌, Bool, true, false, not, ◌&&◌, ◌||◌, ◌==◌, IsTrue, List, [], ◌∷◌, length, reverse, Option, Some, None, refl, sym, ap, ◌∙◌, subst, append-nil, length-append, arith}
use Rattle.std.specs.Prelude.{drop, is_some}
use Rattle.std.specs.List.{cons_option, list_any}
use Rattle.std.proofs.lemmas.Bool.{false≢true}
use Rattle.auth_text.specs.Login.{Login}
use Rattle.spaces.specs.declared.roster.Request.{Request}
use Rattle.spaces.specs.declared.roster.Roster.{Roster}
use Rattle.spaces.specs.declared.site.Target.{Target}
use Rattle.auth_events.specs.declared.journal.BookReply.{BookReply}
use Rattle.auth_events.specs.declared.journal.BookReply.TheVariants.{Drawn}
use Rattle.auth_events.specs.declared.journal.Call.{Call}
use Rattle.auth_events.specs.declared.journal.Call.TheVariants.{Reject, Answer, Draw}
use Rattle.auth_events.specs.declared.journal.Entry.{Entry}
use Rattle.auth_events.specs.Book.{IsStep, allowed, allowed_call, epoch}
use Rattle.auth_events.specs.Fresh.{draws_of}
use Rattle.auth_events.specs.Pages.{fits}
use Rattle.auth_events.specs.Past.{is_removed}
use Rattle.auth_events.specs.Tables.{Tables, greatest, with_text}
use Rattle.auth_events.proofs.Naming.{AreNames-text}
use Rattle.auth_events.proofs.Same.{number_refl}
use Rattle.link_trait.specs.Links.{Stream}
use Rattle.link_trait.specs.declared.links.LinkName.{LinkName}
use Rattle.link_trait.specs.declared.steps.Step.{Step}
use Rattle.link_trait.specs.declared.prompts.AskSeen.{AskSeen}
use Rattle.link_trait.specs.declared.prompts.AskSeen.TheVariants.{Given as AskGiven}
use Rattle.auth_runs.specs.declared.event.Outcome.{Outcome}
use Rattle.auth_runs.specs.declared.event.Event.{Event}
use Rattle.auth_runs.specs.declared.event.Event.TheVariants.{Called, AskedFor, Dialed, DialFailed, Drew, LinkLost, Replied, Broken, WriteFailed, ReadFailed, Stepped}
use Rattle.auth_runs.specs.Runs.{Run, entry_of}
use Rattle.trace_rule.specs.Closings.{carried_out, closings, closings_made, next_closing, want}
use Rattle.trace_rule.specs.Entries.{Made, calls}
use Rattle.trace_rule.specs.Growing.{NamesGrow}
use Rattle.trace_rule.specs.Heard.{leads_to}
use Rattle.trace_rule.specs.Moves.{Move, Want, move}
use Rattle.trace_rule.specs.Moves.Move.{Goes, Closes}
use Rattle.trace_rule.specs.Moves.Want.{Calls, Answers, Asks, Steps, Dials, Draws, Writes, Reads, Loses, Ends, Rests}
use Rattle.trace_rule.specs.Serving.{IsServing}
use Rattle.trace_rule.specs.Settings.{Setting, setting_of}
use Rattle.trace_rule.specs.Traces.{Follows, IsAnswer, IsAsk, IsDial, IsDraw, IsPast, IsRead, IsStep as IsStepOf, agrees, suits}
use Rattle.trace_rule.proofs.Asking.{answers_allowed, wanted_allowed}
use Rattle.trace_rule.proofs.Knowing.{both_of}
use Rattle.trace_rule.proofs.Lasting.{later_knows}
use Rattle.trace_rule.proofs.Reasons.{closing_never}
use Rattle.trace_rule.proofs.Stages.{asks_from}
use Rattle.trace_rule.proofs.Waiting.{IsLed, given_behind}
use Rattle.trace_rule.proofs.Wishes.{IsWished, Wish, granted, wished}
use Rattle.trace_laws.specs.Answering.{made}
use Rattle.trace_laws.proofs.Givings.{may_of}
use Rattle.trace_laws.proofs.Suiting.{calls_suited, texts_suited}
use Rattle.run_rule.specs.Naming.{text_in}
use Rattle.run_rule.specs.Outside.{Outside, answer_for, is_answer_seen}
use Rattle.run_laws.proofs.Fronts.{IsAt, answer_is, called_by, draw_is, follows_at, login_is, named_at, next_at, reply_is, some_text, text_allowed, text_is, text_next, text_place}
use Rattle.run_laws.proofs.Histories.{told_in}
use Rattle.run_laws.proofs.NamedNext.{IsNamed, grow_on, named}
use Rattle.run_laws.proofs.NamedSoFar.{IsNamedSoFar}
use Rattle.run_laws.proofs.Outsides.{IsOutside, behind, is_right, reads_behind, same_outside}
use Rattle.run_laws.proofs.Played.{IsPlayed}
use Rattle.run_laws.proofs.Shared.{IsShared, bound_cons, numbers, serving_more, shared_call, shared_event, told_nothing, unless_is}

-- WHAT FOLLOWS

answered_by : (s : Setting) (past : List Event) (p t : ℕ) (e : Event) → IsAnswer s past p t e
    → (text : ℕ) × (reply : BookReply) × (e ≡ Called (Answer p text t) reply) × IsTrue (not (text == 0)) × IsTrue (suits s past (Answer p text t) reply)
answered_by s past p t (Called (Answer prompt text terms) reply) h = (
  text,
  reply,
  ap (λ q. Called (Answer q text terms) reply) h.0 ∙ ap (λ u. Called (Answer p text u) reply) h.1,
  h.2,
  subst (λ u. IsTrue (suits s past (Answer p text u) reply)) h.1 (subst (λ q. IsTrue (suits s past (Answer q text terms) reply)) h.0 h.3),
)
answered_by s past p t _ h = absurd h

drawn_by : (t : Target) (n : ℕ) (e : Event) → IsDraw t n e → (count : ℕ) × (at : ℕ) × (e ≡ Drew t n count at)
drawn_by t n (Drew target nonce count at) h = (count, at, ap (λ u. Drew u nonce count at) h.0 ∙ ap (λ m. Drew t m count at) h.1)
drawn_by t n _ h = absurd h

-- the event is neither a call nor a draw
abbrev IsQuiet : Event → Type 0
IsQuiet (Called call reply) = ⊥
IsQuiet (Drew target nonce count at) = ⊥
IsQuiet _ = Unit {0}

ask_quiet : (p : ℕ) (e : Event) → IsAsk p e → IsQuiet e
ask_quiet p (AskedFor q seen) h = tt
ask_quiet p _ h = absurd h

step_quiet : (t : Target) (e : Event) → IsStepOf t e → IsQuiet e
step_quiet t (Stepped target step) h = tt
step_quiet t _ h = absurd h

dial_quiet : (n : ℕ) (e : Event) → IsDial n e → IsQuiet e
dial_quiet n (Dialed on) h = tt
dial_quiet n (DialFailed on count) h = tt
dial_quiet n _ h = absurd h

read_quiet : (past : List Event) (n : ℕ) (e : Event) → IsRead past n e → IsQuiet e
read_quiet past n (Replied on reply) h = tt
read_quiet past n (Broken on fault) h = tt
read_quiet past n (LinkLost on) h = tt
read_quiet past n (WriteFailed on count) h = tt
read_quiet past n (ReadFailed on count) h = tt
read_quiet past n _ h = absurd h

quiet_calls : (past : List Event) (e : Event) → IsQuiet e → calls (e ∷ past) ≡ calls past
quiet_calls past (Called call reply) h = absurd h
quiet_calls past _ h = refl

quiet_entry : (r : ℕ) (e : Event) → IsQuiet e → entry_of 1 r e ≡ None
quiet_entry r (Called call reply) h = absurd h
quiet_entry r _ h = refl

quiet_told : (r : ℕ) (e : Event) → IsQuiet e → told_in r e ≡ None
quiet_told r (Called call reply) h = absurd h
quiet_told r (Drew target nonce count at) h = absurd h
quiet_told r _ h = refl

led_calls : (b : List Event) (p : ℕ) → IsLed p b → IsTrue (list_any (λ (m : Made). leads_to m.reply p) (calls b))
led_calls b p led =
    subst (λ l. IsTrue (list_any (λ (m : Made). leads_to m.reply p) (calls l))) (sym led.3)
    (ap (λ x. x || list_any (λ (m : Made). leads_to m.reply p) (calls led.2)) (number_refl p))

-- an answer is wanted behind the asking for a prompt that was led
answers_led : (s : Setting) (past : List Event) (p t : ℕ) → IsPast s past → want s past ≡ Answers p t → IsTrue (list_any (λ (m : Made). leads_to m.reply p) (calls past))
answers_led s past p t run w = at (move s past) refl w
  where
    is_answers : Want → Bool
    is_answers (Answers q u) = true
    is_answers _ = false

    at_list : {P : Type 0} (o : Outcome) (cs : List (Option Call)) → next_closing o cs ≡ Answers p t → P
    at_list o [] k = absurd (false≢true (ap is_answers k))
    at_list o (None ∷ cs) k = absurd (false≢true (ap is_answers k))
    at_list o (Some c ∷ cs) k = absurd (false≢true (ap is_answers k))

    behind_asking : (b : List Event) → past ≡ AskedFor p AskGiven ∷ b → IsTrue (list_any (λ (m : Made). leads_to m.reply p) (calls past))
    behind_asking b e =
        let here = subst (IsPast s) e run in
        subst (λ l. IsTrue (list_any (λ (m : Made). leads_to m.reply p) (calls l))) (sym e) (led_calls b p (asks_from s b p AskGiven here.0 here.1))

    at : (m : Move) → move s past ≡ m → carried_out s past m ≡ Answers p t → IsTrue (list_any (λ (m : Made). leads_to m.reply p) (calls past))
    at (Goes x) e k = let g = given_behind s past p t (e ∙ ap Goes k) (closing_never s past (Answers p t) run (e ∙ ap Goes k)) in behind_asking g.0 g.1
    at (Closes o) e k = at_list o (drop (closings_made s past) (closings s past o)) k

grow_text : (names : Tables) (login : Login) → NamesGrow names (with_text names login)
grow_text names login = record {
  new_spaces = [];
  new_terms = [];
  new_texts = login ∷ [];
  spaces = sym (append-nil names.spaces);
  terms = sym (append-nil names.terms);
  texts = refl;
}

-- a text that an answer may name is named
text_within : (roster : Roster) (names : Tables) (entries : List Entry) (r : ℕ) (call : Call) (n : ℕ) → IsTrue (allowed_call roster names entries r call) → text_in call ≡ Some n → n ≤ length names.texts
text_within roster names entries r (Answer p text t) n may e = subst (λ m. m ≤ length names.texts) (unless_is text n e).0 (text_allowed roster names entries r p text t may)
text_within roster names entries r call n may e = told_nothing n (text_in call) refl e

-- what the outside makes doesn't go by what is known
follows_any : (s m : Setting) (past : List Event) (w : Want) (e : Event) → IsOutside w → Follows s past w e → Follows m past w e
follows_any s m past (Calls call) e out h = absurd out
follows_any s m past (Answers p t) e out h = absurd out
follows_any s m past (Draws t n) e out h = absurd out
follows_any s m past (Asks p) e out h = h
follows_any s m past (Steps t asking) e out h = h
follows_any s m past (Dials link) e out h = h
follows_any s m past (Writes link bytes) e out h = h
follows_any s m past (Reads link) e out h = h
follows_any s m past (Loses link) e out h = h
follows_any s m past (Ends o) e out h = h
follows_any s m past Rests e out h = h

outside_quiet : (s : Setting) (past : List Event) (w : Want) (e : Event) → IsOutside w → Follows s past w e → IsQuiet e
outside_quiet s past (Calls call) e out h = absurd out
outside_quiet s past (Answers p t) e out h = absurd out
outside_quiet s past (Draws t n) e out h = absurd out
outside_quiet s past (Asks p) e out h = ask_quiet p e h
outside_quiet s past (Steps t asking) e out h = step_quiet t e h
outside_quiet s past (Dials link) e out h = dial_quiet link e h
outside_quiet s past (Writes link bytes) e out h = subst IsQuiet (sym h) tt
outside_quiet s past (Reads link) e out h = read_quiet past link e h
outside_quiet s past (Loses link) e out h = subst IsQuiet (sym h) tt
outside_quiet s past (Ends o) e out h = subst IsQuiet (sym h) tt
outside_quiet s past Rests e out h = absurd h

-- a prompt is answered by what stands for it
right_as : (s m : Setting) (streams : LinkName → Stream) (steps : ℕ → Step) (x y : ℕ → Option Login) (e : Event) → ((p : ℕ) (seen : AskSeen) → e ≡ AskedFor p seen → x p ≡ y p)
    → IsTrue (is_right s streams x steps e) → IsTrue (is_right m streams y steps e)
right_as s m streams steps x y (AskedFor p seen) same h = subst (λ o. IsTrue (is_answer_seen seen o)) (same p seen refl) h
right_as s m streams steps x y _ same h = refl

-- what is rejected is known
rejected_known : (s : Setting) (past : List Event) (call : Call) (reply : BookReply) → IsTrue (suits s past call reply) → (space ordinal : ℕ) → call ≡ Reject space ordinal → IsTrue (is_some (s.space_of space))
rejected_known s past call reply suited space ordinal e =
    let here = subst (λ c. IsTrue (suits s past c reply)) e suited in
    (both_of (is_some (s.space_of space)) (not (ordinal == 0 && is_removed reply)) (both_of (fits (Reject space ordinal) reply) (agrees s past (Reject space ordinal) reply) here).1).0

module _ (roster : Roster) (outside : Outside) (seed : List ℕ) (a b : Run) (pa : IsPlayed roster outside seed a) (pb : IsPlayed roster outside seed b) (r : ℕ) (request : Request) (later : List ℕ) where
  -- they agree, and go on with these events
  pub record AreAgreed (k : ℕ) (past ea eb : List Event) : Type 0 where
    pub names : Tables
    pub entries : List Entry
    pub whole : List Entry
    pub shared : IsShared roster seed r request names entries whole past
    pub of_a : IsAt roster outside seed a r k request names entries whole past ea later
    pub of_b : IsAt roster outside seed b r k request names entries whole past eb later

  module _ (k : ℕ) (past : List Event) (e f : Event) (ea eb : List Event) (agreed : AreAgreed k past (e ∷ ea) (f ∷ eb)) where
    abbrev names : Tables
    names = agreed.names

    abbrev entries : List Entry
    entries = agreed.entries

    abbrev whole : List Entry
    whole = agreed.whole

    abbrev so : Tables → Setting
    so x = setting_of roster seed x entries r request

    abbrev with_entry : Tables → Entry → Setting
    with_entry x entry = setting_of roster seed x (entry ∷ entries) r request

    abbrev Result : Type 0
    Result = (e ≡ f) × AreAgreed (behind k e) (e ∷ past) ea eb

    -- both go on with the same
    finish : (g : Event) → e ≡ g → f ≡ g → (more : Tables) → IsNamedSoFar more a.names → IsNamedSoFar more b.names
        → IsShared roster seed r request more (cons_option (entry_of 1 r g) entries) (cons_option (told_in r g) whole) (g ∷ past) → Result
    finish g is_e is_f more named_a named_b shared =
        let at_a = subst (λ z. IsAt roster outside seed a r k request names entries whole past (z ∷ ea) later) is_e agreed.of_a in
        let at_b = subst (λ z. IsAt roster outside seed b r k request names entries whole past (z ∷ eb) later) is_f agreed.of_b in
        let on : AreAgreed (behind k g) (g ∷ past) ea eb = record {
          names = more;
          entries = cons_option (entry_of 1 r g) entries;
          whole = cons_option (told_in r g) whole;
          shared = shared;
          of_a = next_at roster outside seed a pa r k request names entries whole past g ea later agreed.shared at_a more named_a;
          of_b = next_at roster outside seed b pb r k request names entries whole past g eb later agreed.shared at_b more named_b;
        } in
        (is_e ∙ sym is_f, subst (λ z. AreAgreed (behind k z) (z ∷ past) ea eb) (sym is_e) on)

    module _ (w : IsWished (so names) (λ z. want z past)) where
      abbrev x : Wish
      x = w.0

      abbrev more : Tables
      more = named names x

      abbrev wanted : Want
      wanted = granted (so more) x

      named_a : IsNamed names a.names x so (granted (setting_of roster seed a.names (reverse a.journal) r request) x)
      named_a = named_at roster outside seed a pa r k request names entries whole past e ea later agreed.shared agreed.of_a x w.1 w.2

      named_b : IsNamed names b.names x so (granted (setting_of roster seed b.names (reverse b.journal) r request) x)
      named_b = named_at roster outside seed b pb r k request names entries whole past f eb later agreed.shared agreed.of_b x w.1 w.2

      follows_a : Follows (setting_of roster seed a.names (reverse a.journal) r request) past wanted e
      follows_a = follows_at roster outside seed a pa r k request names entries whole past e ea later agreed.shared agreed.of_a x w.1 w.2

      follows_b : Follows (setting_of roster seed b.names (reverse b.journal) r request) past wanted f
      follows_b = follows_at roster outside seed b pb r k request names entries whole past f eb later agreed.shared agreed.of_b x w.1 w.2

      v : IsServing roster more entries 1 r request (so more) past
      v = serving_more roster seed r request names more entries past named_a.grow named_a.are_names agreed.shared.pages agreed.shared.serving

      wants : want (so more) past ≡ wanted
      wants = w.2 (so more) (later_knows roster seed names more named_a.grow [] entries v.legal r request)

      -- CALLS

      on_call : (call : Call) → wanted ≡ Calls call → Result
      on_call call q =
          let ca = called_by (setting_of roster seed a.names (reverse a.journal) r request) past call e (subst (λ z. Follows (setting_of roster seed a.names (reverse a.journal) r request) past z e) q follows_a) in
          let cb = called_by (setting_of roster seed b.names (reverse b.journal) r request) past call f (subst (λ z. Follows (setting_of roster seed b.names (reverse b.journal) r request) past z f) q follows_b) in
          let may : IsTrue (allowed roster more entries 1 r call) = wanted_allowed false roster seed more entries 1 r request past v call (wants ∙ q) in
          let ra = reply_is roster outside seed a pa r k request names entries whole past e ea later agreed.shared agreed.of_a more call ca.0 ca.1 named_a.so_far.grow v.legal may in
          let rb = reply_is roster outside seed b pb r k request names entries whole past f eb later agreed.shared agreed.of_b more call cb.0 cb.1 named_b.so_far.grow v.legal may in
          let reply : BookReply = ca.0 in
          let entry : Entry = made 1 r call reply in
          let step : IsStep roster more entries entry = (may, ra, (both_of (fits call reply) (agrees (setting_of roster seed a.names (reverse a.journal) r request) past call reply) ca.2).0) in
          let suited = calls_suited false roster seed more entries 1 r request past v call reply (wants ∙ q) step in
          let wants_later : want (with_entry more entry) past ≡ Calls call = w.2 (with_entry more entry) (later_knows roster seed names more named_a.grow (entry ∷ []) entries (v.legal, step) r request) ∙ q in
          let no_text : (n : ℕ) → text_in call ≡ Some n → ⊥ = (λ n t. none_again n t (text_is roster outside seed a pa r k request names entries whole past e ea later agreed.shared agreed.of_a call reply ca.1 n t) (may_of roster more entries entry step)) in
          let none : text_in call ≡ None = nothing (text_in call) refl no_text in
          finish (Called call reply) ca.1 (cb.1 ∙ ap (Called call) (rb ∙ sym ra)) more named_a.so_far named_b.so_far
          (shared_call roster seed r request names more entries whole past call reply agreed.shared named_a.grow v step
          (subst (λ z. Follows (with_entry more entry) past z (Called call reply)) (sym wants_later) (refl, suited))
          (rejected_known (with_entry more entry) past call reply suited)
          (ap (λ o. length (cons_option o (numbers text_in entries))) none ∙ (agreed.shared.texts ∙ sym (ap length named_a.same_texts)))
          (subst (λ o. greatest (cons_option o (numbers text_in entries)) ≤ length more.texts) (sym none) (let le = agreed.shared.text_top in omega (arith, le, ap length named_a.same_texts))))
        where
          nothing : (o : Option ℕ) → text_in call ≡ o → ((n : ℕ) → text_in call ≡ Some n → ⊥) → text_in call ≡ None
          nothing None t h = t
          nothing (Some n) t h = absurd (h n t)

          none_again : (n : ℕ) → text_in call ≡ Some n → n ≡ length names.texts + 1 → IsTrue (allowed_call roster more entries r call) → ⊥
          none_again n t place may = let le = text_within roster more entries r call n may t in omega (arith, le, place, ap length named_a.same_texts)

      -- DRAWS

      on_draw : (t : Target) (n : ℕ) → wanted ≡ Draws t n → Result
      on_draw t n q =
          let da = drawn_by t n e (subst (λ z. Follows (setting_of roster seed a.names (reverse a.journal) r request) past z e) q follows_a) in
          let db = drawn_by t n f (subst (λ z. Follows (setting_of roster seed b.names (reverse b.journal) r request) past z f) q follows_b) in
          let na = draw_is roster outside seed a pa r k request names entries whole past e ea later agreed.shared agreed.of_a more t n da.0 da.1 da.2 named_a.so_far.grow v.legal in
          let nb = draw_is roster outside seed b pb r k request names entries whole past f eb later agreed.shared agreed.of_b more t n db.0 db.1 db.2 named_b.so_far.grow v.legal in
          let count : ℕ = length (draws_of whole n) + 1 in
          let at : ℕ = epoch more entries n in
          let entry : Entry = record { caller = 1; request = r; call = Draw n; reply = Drawn count at } in
          finish (Drew t n count at)
          (da.2 ∙ (ap (λ c. Drew t n c da.1) na.0 ∙ ap (Drew t n count) na.1))
          (db.2 ∙ (ap (λ c. Drew t n c db.1) nb.0 ∙ ap (Drew t n count) nb.1))
          more named_a.so_far named_b.so_far
          (shared_event roster seed r request names more entries whole past (Drew t n count at) agreed.shared named_a.grow named_a.same_texts v
          (subst (λ z. Follows (so more) past z (Drew t n count at)) (sym (wants ∙ q)) (refl, refl)) refl (entry ∷ whole) refl)

      -- ANSWERS

      on_answer : (p t : ℕ) → wanted ≡ Answers p t → Result
      on_answer p t q =
          let aa = answered_by (setting_of roster seed a.names (reverse a.journal) r request) past p t e (subst (λ z. Follows (setting_of roster seed a.names (reverse a.journal) r request) past z e) q follows_a) in
          let ab = answered_by (setting_of roster seed b.names (reverse b.journal) r request) past p t f (subst (λ z. Follows (setting_of roster seed b.names (reverse b.journal) r request) past z f) q follows_b) in
          let led = answers_led (so more) past p t v.is_past (wants ∙ q) in
          let text : ℕ = aa.0 in
          let call : Call = Answer p text t in
          let reply : BookReply = aa.1 in
          let entry : Entry = made 1 r call reply in
          let place_a = text_place roster outside seed a pa r k request names entries whole past e ea later agreed.shared agreed.of_a p t aa.0 aa.1 aa.2 aa.3 led in
          let place_b = text_place roster outside seed b pb r k request names entries whole past f eb later agreed.shared agreed.of_b p t ab.0 ab.1 ab.2 ab.3 led in
          let given = login_is roster outside seed a pa r k request names entries whole past e ea later agreed.shared agreed.of_a p t aa.0 aa.1 aa.2 aa.3 led in
          let last : Tables = with_text more given.0 in
          let next_a = text_next roster outside seed a pa r k request names entries whole past e ea later agreed.shared agreed.of_a p t aa.0 aa.1 aa.2 aa.3 led more named_a.so_far named_a.same_texts given.0 given.1 in
          let next_b = text_next roster outside seed b pb r k request names entries whole past f eb later agreed.shared agreed.of_b p t ab.0 ab.1 ab.2 ab.3 led more named_b.so_far named_b.same_texts given.0 given.1 in
          let grow : NamesGrow names last = grow_on names more last named_a.grow (grow_text more given.0) in
          let u : IsServing roster last entries 1 r request (so last) past = serving_more roster seed r request more last entries past (grow_text more given.0) (AreNames-text more given.0 named_a.are_names) agreed.shared.pages v in
          let wants_last : want (so last) past ≡ Answers p t = w.2 (so last) (later_knows roster seed names last grow [] entries u.legal r request) ∙ q in
          let many : length last.texts ≡ length names.texts + 1 = length-append more.texts (given.0 ∷ []) ∙ ap (λ l. length l + 1) named_a.same_texts in
          let may : IsTrue (allowed roster last entries 1 r call) = answers_allowed false roster seed last entries 1 r request past u p text t wants_last (omega (arith, place_a, many)) in
          let is_f : f ≡ Called call ab.1 = ab.2 ∙ ap (λ m. Called (Answer p m t) ab.1) (place_b ∙ sym place_a) in
          let ra = reply_is roster outside seed a pa r k request names entries whole past e ea later agreed.shared agreed.of_a last call reply aa.2 next_a.grow u.legal may in
          let rb = reply_is roster outside seed b pb r k request names entries whole past f eb later agreed.shared agreed.of_b last call ab.1 is_f next_b.grow u.legal may in
          let step : IsStep roster last entries entry = (may, ra, (both_of (fits call reply) (agrees (setting_of roster seed a.names (reverse a.journal) r request) past call reply) aa.4).0) in
          let suited = texts_suited false roster seed last entries 1 r request past u p text t reply wants_last aa.3 step in
          let wants_later : want (with_entry last entry) past ≡ Answers p t = w.2 (with_entry last entry) (later_knows roster seed names last grow (entry ∷ []) entries (u.legal, step) r request) ∙ q in
          let turned : text_in call ≡ Some text = some_text text aa.3 in
          finish (Called call reply) aa.2 (is_f ∙ ap (Called call) (rb ∙ sym ra)) last next_a next_b
          (shared_call roster seed r request names last entries whole past call reply agreed.shared grow u step
          (subst (λ z. Follows (with_entry last entry) past z (Called call reply)) (sym wants_later) (refl, refl, aa.3, suited))
          (rejected_known (with_entry last entry) past call reply suited)
          (ap (λ o. length (cons_option o (numbers text_in entries))) turned ∙ (let same = agreed.shared.texts in omega (arith, same, many)))
          (subst (λ o. greatest (cons_option o (numbers text_in entries)) ≤ length last.texts) (sym turned)
          (bound_cons (Some text) (numbers text_in entries) (length last.texts) (λ m is. (let same : text ≡ m = cc in omega (arith, same, place_a, many)))
          (let le = agreed.shared.text_top in omega (arith, le, many)))))

      -- THE OUTSIDE

      on_outside : (z : Want) → IsOutside z → wanted ≡ z → Result
      on_outside z out q =
          let at_a = agreed.of_a.is_on.0 in
          let at_b = agreed.of_b.is_on.0 in
          let fa : Follows (so more) past z e =
          follows_any (setting_of roster seed a.names (reverse a.journal) r request) (so more) past z e out (subst (λ z. Follows (setting_of roster seed a.names (reverse a.journal) r request) past z e) q follows_a) in
          let fb : Follows (so more) past z f =
          follows_any (setting_of roster seed b.names (reverse b.journal) r request) (so more) past z f out (subst (λ z. Follows (setting_of roster seed b.names (reverse b.journal) r request) past z f) q follows_b) in
          let quiet : IsQuiet e = outside_quiet (so more) past z e out fa in
          let right =
          right_as (setting_of roster seed b.names (reverse b.journal) r request) (so more) outside.streams (outside.steps r) (answer_for outside b) (answer_for outside a) f
          (λ p seen is. answered p seen (subst (λ g. Follows (so more) past z g) is fb)) at_b.2.2 in
          let same : e ≡ f =
          same_outside (so more) outside.streams (answer_for outside a) (outside.steps r) k past z e f ea eb out (λ link l. reads_behind (so more) past v.is_past link (wants ∙ (q ∙ l)))
          fa fb at_a.1 at_b.1 at_a.2 (at_b.2.0, at_b.2.1, right) agreed.of_a.stepped agreed.of_b.stepped in
          let base : IsShared roster seed r request more entries whole (e ∷ past) =
          shared_event roster seed r request names more entries whole past e agreed.shared named_a.grow named_a.same_texts v (subst (λ y. Follows (so more) past y e) (sym (wants ∙ q)) fa) (quiet_calls past e quiet) whole refl in
          finish e refl (sym same) more named_a.so_far named_b.so_far
          (subst (λ o. IsShared roster seed r request more (cons_option o entries) (cons_option (told_in r e) whole) (e ∷ past)) (sym (quiet_entry r e quiet))
          (subst (λ o. IsShared roster seed r request more entries (cons_option o whole) (e ∷ past)) (sym (quiet_told r e quiet)) base))
        where
          -- both have the same answer for a prompt that was led
          answered : (p : ℕ) (seen : AskSeen) → Follows (so more) past z (AskedFor p seen) → answer_for outside b p ≡ answer_for outside a p
          answered p seen h =
              let led = led_calls past p (asks_from (so more) past p seen v.is_past (subst (λ y. Follows (so more) past y (AskedFor p seen)) (sym (wants ∙ q)) h)) in
              answer_is roster outside seed b pb r k request names entries whole past f eb later agreed.shared agreed.of_b p led
              ∙ sym (answer_is roster outside seed a pa r k request names entries whole past e ea later agreed.shared agreed.of_a p led)

      by_want : (z : Want) → wanted ≡ z → Result
      by_want (Calls call) q = on_call call q
      by_want (Answers p t) q = on_answer p t q
      by_want (Draws t n) q = on_draw t n q
      by_want z q = on_outside z tt q

    pub next_agreed : Result
    next_agreed = by_want (wished (so names) past agreed.shared.serving.is_past) (wanted (wished (so names) past agreed.shared.serving.is_past)) refl
