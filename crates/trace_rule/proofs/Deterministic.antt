-- What the outside tells, and nothing else, makes the trace.
use Rattle.std.proofs.Common.{◌≡◌, ℕ, Bool, false, List, [], ◌∷◌, ◌++◌, reverse, refl, sym, ap, ◌∙◌, subst, append_assoc, IsTrue, ◌⊎◌, inl, inr}
use Rattle.std.proofs.lemmas.List.{reverse-append, append-nil}
use Rattle.std.proofs.lemmas.Bool.{false≢true}
use Rattle.spaces.specs.declared.site.Target.{Target}
use Rattle.auth_events.specs.declared.journal.Call.{Call}
use Rattle.auth_events.specs.declared.journal.Call.TheVariants.{Answer}
use Rattle.auth_runs.specs.declared.event.Outcome.TheVariants.{NoMemory}
use Rattle.auth_runs.specs.declared.event.Event.{Event}
use Rattle.auth_runs.specs.declared.event.Event.TheVariants.{Called, Dialed, DialFailed, Drew, Headed, WriteFailed, ReadFailed, Replied, Broken, LinkLost, AskedFor, Stepped, Ended}
use Rattle.trace_rule.specs.Settings.{Setting}
use Rattle.trace_rule.specs.Moves.{Want}
use Rattle.trace_rule.specs.Closings.{want}
use Rattle.trace_rule.specs.Moves.Want.{Calls, Answers, Asks, Steps, Dials, Draws, Writes, Reads, Loses, Ends, Rests}
use Rattle.trace_rule.specs.Traces.{Follows, IsCall, IsAnswer, IsAsk, IsStep, IsDial, IsDraw, IsRead, IsPast, IsRun, IsCut, IsTrace, is_over, is_spent}
use Rattle.trace_rule.specs.Tapes.{Teller, Tale, tale, teller, wound, IsTold, AreTold}
use Rattle.trace_rule.specs.Tapes.Tale.{BookSaid, DialFault, DrawGave, ReplyRead, FaultRead, WriteFault, ReadFault, PrompterSaid, ProviderSaid, NothingSaid}

-- the event that is wanted, with what was told

abbrev read_event : ℕ → Tale → Event
read_event link (ReplyRead reply) = Replied link reply
read_event link (FaultRead fault) = Broken link fault
read_event link (WriteFault count) = WriteFailed link count
read_event link (ReadFault count) = ReadFailed link count
read_event link _ = LinkLost link

abbrev dial_event : ℕ → Tale → Event
dial_event link (DialFault count) = DialFailed link count
dial_event link _ = Dialed link

abbrev call_event : Call → Tale → Event
call_event call (BookSaid text reply) = Called call reply
call_event call _ = Ended NoMemory

abbrev answer_event : ℕ → ℕ → Tale → Event
answer_event p t (BookSaid text reply) = Called (Answer p text t) reply
answer_event p t _ = Ended NoMemory

abbrev ask_event : ℕ → Tale → Event
ask_event p (PrompterSaid seen) = AskedFor p seen
ask_event p _ = Ended NoMemory

abbrev step_event : Target → Tale → Event
step_event t (ProviderSaid step) = Stepped t step
step_event t _ = Ended NoMemory

abbrev draw_event : Target → ℕ → Tale → Event
draw_event t n (DrawGave count epoch) = Drew t n count epoch
draw_event t n _ = Ended NoMemory

abbrev event_of : Want → Tale → Event
event_of (Calls call) told = call_event call told
event_of (Answers prompt terms) told = answer_event prompt terms told
event_of (Asks prompt) told = ask_event prompt told
event_of (Steps target asking) told = step_event target told
event_of (Dials link) told = dial_event link told
event_of (Draws target nonce) told = draw_event target nonce told
event_of (Reads link) told = read_event link told
event_of (Writes link bytes) told = Headed link bytes
event_of (Loses link) told = LinkLost link
event_of (Ends outcome) told = Ended outcome
event_of Rests told = Ended NoMemory

is_call : (s : Setting) (past : List Event) (call : Call) (e : Event) → IsCall s past call e → e ≡ call_event call (tale e)
is_call s past call (Called made reply) h = ap (λ c. Called c reply) h.0
is_call s past call _ h = absurd h

is_answer : (s : Setting) (past : List Event) (p t : ℕ) (e : Event) → IsAnswer s past p t e → e ≡ answer_event p t (tale e)
is_answer s past p t (Called (Answer prompt text under) reply) h =
    ap (λ x. Called (Answer x text under) reply) h.0 ∙ ap (λ x. Called (Answer p text x) reply) h.1
is_answer s past p t _ h = absurd h

is_ask : (p : ℕ) (e : Event) → IsAsk p e → e ≡ ask_event p (tale e)
is_ask p (AskedFor prompt seen) h = ap (λ x. AskedFor x seen) h
is_ask p _ h = absurd h

is_step : (t : Target) (e : Event) → IsStep t e → e ≡ step_event t (tale e)
is_step t (Stepped target step) h = ap (λ x. Stepped x step) h
is_step t _ h = absurd h

is_dial : (link : ℕ) (e : Event) → IsDial link e → e ≡ dial_event link (tale e)
is_dial link (Dialed on) h = ap Dialed h
is_dial link (DialFailed on count) h = ap (λ x. DialFailed x count) h
is_dial link _ h = absurd h

is_draw : (t : Target) (n : ℕ) (e : Event) → IsDraw t n e → e ≡ draw_event t n (tale e)
is_draw t n (Drew target nonce count epoch) h = ap (λ x. Drew x nonce count epoch) h.0 ∙ ap (λ x. Drew t x count epoch) h.1
is_draw t n _ h = absurd h

is_read : (past : List Event) (link : ℕ) (e : Event) → IsRead past link e → e ≡ read_event link (tale e)
is_read past link (Replied on reply) h = ap (λ x. Replied x reply) h.0
is_read past link (Broken on fault) h = ap (λ x. Broken x fault) h
is_read past link (LinkLost on) h = ap LinkLost h.0
is_read past link (WriteFailed on count) h = ap (λ x. WriteFailed x count) h
is_read past link (ReadFailed on count) h = ap (λ x. ReadFailed x count) h
is_read past link _ h = absurd h

-- the event is the one that is wanted, with what was told
is_event : (s : Setting) (past : List Event) (w : Want) (e : Event) → Follows s past w e → e ≡ event_of w (tale e)
is_event s past (Calls call) e h = is_call s past call e h
is_event s past (Answers prompt terms) e h = is_answer s past prompt terms e h
is_event s past (Asks prompt) e h = is_ask prompt e h
is_event s past (Steps target asking) e h = is_step target e h
is_event s past (Dials link) e h = is_dial link e h
is_event s past (Draws target nonce) e h = is_draw target nonce e h
is_event s past (Reads link) e h = is_read past link e h
is_event s past (Writes link bytes) e h = h
is_event s past (Loses link) e h = h
is_event s past (Ends outcome) e h = h
is_event s past Rests e h = absurd h

same_event : (s : Setting) (past : List Event) (w : Want) (e f : Event) → Follows s past w e → Follows s past w f → tale e ≡ tale f → e ≡ f
same_event s past w e f a b told = is_event s past w e a ∙ ap (event_of w) told ∙ sym (is_event s past w f b)

abbrev first_of : List Tale → Tale
first_of [] = NothingSaid
first_of (x ∷ xs) = x

same_next : (s : Setting) (past : List Event) (w : Want) (e f : Event) (tapes : Teller → List Tale) → Follows s past w e → Follows s past w f → IsTold (teller w) e tapes → IsTold (teller w) f tapes → e ≡ f
same_next s past (Writes link bytes) e f tapes p q a b = p ∙ sym q
same_next s past (Loses link) e f tapes p q a b = p ∙ sym q
same_next s past (Ends outcome) e f tapes p q a b = p ∙ sym q
same_next s past Rests e f tapes p q a b = absurd p
same_next s past (Calls call) e f tapes p q a b = same_event s past (Calls call) e f p q (ap first_of (sym a ∙ b))
same_next s past (Answers prompt terms) e f tapes p q a b = same_event s past (Answers prompt terms) e f p q (ap first_of (sym a ∙ b))
same_next s past (Asks prompt) e f tapes p q a b = same_event s past (Asks prompt) e f p q (ap first_of (sym a ∙ b))
same_next s past (Steps target asking) e f tapes p q a b = same_event s past (Steps target asking) e f p q (ap first_of (sym a ∙ b))
same_next s past (Dials link) e f tapes p q a b = same_event s past (Dials link) e f p q (ap first_of (sym a ∙ b))
same_next s past (Draws target nonce) e f tapes p q a b = same_event s past (Draws target nonce) e f p q (ap first_of (sym a ∙ b))
same_next s past (Reads link) e f tapes p q a b = same_event s past (Reads link) e f p q (ap first_of (sym a ∙ b))

-- FORWARD

abbrev IsPastOn : Setting → List Event → List Event → Type 0
IsPastOn s past [] = Unit {0}
IsPastOn s past (event ∷ events) = Follows s past (want s past) event × IsPastOn s (event ∷ past) events

abbrev ends_over : List Event → List Event → Bool
ends_over past [] = is_over past
ends_over past (event ∷ events) = ends_over (event ∷ past) events

pub nothing_after : (s : Setting) (past : List Event) (e : Event) → IsTrue (is_over past) → Follows s past (want s past) e → ⊥
nothing_after s [] e over next = false≢true over
nothing_after s (Ended outcome ∷ past) e over next = next
nothing_after s (_ ∷ past) e over next = false≢true over

deterministic_on : (s : Setting) (past a b : List Event) (tapes : Teller → List Tale) → IsPastOn s past a → IsPastOn s past b
    → IsTrue (ends_over past a) → IsTrue (ends_over past b) → AreTold s past a tapes → AreTold s past b tapes → a ≡ b
deterministic_on s past [] [] tapes p q over_a over_b told_a told_b = refl
deterministic_on s past [] (f ∷ b) tapes p q over_a over_b told_a told_b = absurd (nothing_after s past f over_a q.0)
deterministic_on s past (e ∷ a) [] tapes p q over_a over_b told_a told_b = absurd (nothing_after s past e over_b p.0)
deterministic_on s past (e ∷ a) (f ∷ b) tapes p q over_a over_b told_a told_b =
    let same : e ≡ f = same_next s past (want s past) e f tapes p.0 q.0 told_a.0 told_b.0 in
    subst (λ x. IsPastOn s past (x ∷ b) → IsTrue (ends_over past (x ∷ b)) → AreTold s past (x ∷ b) tapes → e ∷ a ≡ x ∷ b)
    same
    (λ run over told. ap (λ rest. e ∷ rest) (deterministic_on s (e ∷ past) a b (wound (teller (want s past)) tapes) p.1 run.1 over_a over told_a.1 told.1))
    q over_b told_b

reversed : (e : Event) (events past : List Event) → reverse (e ∷ events) ++ past ≡ reverse events ++ e ∷ past
reversed e events past = ap (λ xs. xs ++ past) (reverse-append (e ∷ []) events) ∙ append_assoc (reverse events) (e ∷ []) past

past_forward : (s : Setting) (past events : List Event) → IsPast s (reverse events ++ past) → IsPast s past × IsPastOn s past events
past_forward s past [] run = (run, tt)
past_forward s past (e ∷ events) run =
    let rest = past_forward s (e ∷ past) events (subst (IsPast s) (reversed e events past) run) in
    (rest.0.0, (rest.0.1, rest.1))

over_forward : (past events : List Event) → is_over (reverse events ++ past) ≡ ends_over past events
over_forward past [] = refl
over_forward past (e ∷ events) = ap is_over (reversed e events past) ∙ over_forward (e ∷ past) events

whole : (s : Setting) (past : List Event) → IsRun s past ⊎ IsCut s past → is_spent past ≡ false → IsRun s past
whole s past (inl run) unspent = run
whole s past (inr cut) unspent = absurd (false≢true (sym unspent ∙ ap is_spent cut.1.cut))

pub deterministic : (s : Setting) (a b : List Event) (tapes : Teller → List Tale) → IsTrace s a → IsTrace s b
    → is_spent (reverse a) ≡ false → is_spent (reverse b) ≡ false → AreTold s [] a tapes → AreTold s [] b tapes → a ≡ b
deterministic s a b tapes p q unspent_a unspent_b told_a told_b =
    let run_a = whole s (reverse a) p unspent_a in
    let run_b = whole s (reverse b) q unspent_b in
    deterministic_on s [] a b tapes
    (past_forward s [] a (subst (IsPast s) (sym (append-nil (reverse a))) run_a.0)).1 (past_forward s [] b (subst (IsPast s) (sym (append-nil (reverse b))) run_b.0)).1
    (sym (over_forward [] a) ∙ (ap is_over (append-nil (reverse a)) ∙ run_a.1)) (sym (over_forward [] b) ∙ (ap is_over (append-nil (reverse b)) ∙ run_b.1))
    told_a told_b
