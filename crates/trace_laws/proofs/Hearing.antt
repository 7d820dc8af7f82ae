-- Streams, and what is told beside them, make the trace.
use Rattle.std.proofs.Common.{◌≡◌, ◌⊎◌, inl, inr, ℕ, suc, Bool, true, false, ◌&&◌, ◌==◌, IsTrue, List, [], ◌∷◌, ◌++◌, length, reverse, Option, Some, None, Result, Ok, Err, refl, sym, ap, ◌∙◌, subst, append_assoc, arith, if◌then◌else◌}
use Rattle.std.proofs.lemmas.List.{reverse-append, append-nil}
use Rattle.std.proofs.lemmas.Bool.{false≢true, eqb-true}
use Rattle.spaces.specs.declared.roster.Method.{Method}
use Rattle.spaces.specs.declared.site.Target.{Target}
use Rattle.auth_events.specs.declared.journal.Call.{Call}
use Rattle.auth_events.specs.declared.journal.Call.TheVariants.{Answer}
use Rattle.auth_events.specs.declared.journal.BookReply.{BookReply}
use Rattle.auth_events.specs.declared.journal.BookReply.TheVariants.{Begun}
use Rattle.link_trait.specs.Links.{Stream}
use Rattle.link_trait.specs.declared.links.LinkName.{LinkName}
use Rattle.link_trait.specs.declared.prompts.AskSeen.{AskSeen}
use Rattle.link_trait.specs.declared.prompts.AskSeen.TheVariants.{Cancel}
use Rattle.link_trait.specs.declared.steps.StepSeen.{StepSeen}
use Rattle.link_trait.specs.declared.steps.StepSeen.TheVariants.{Done}
use Rattle.wire_head.specs.Replies.{reply}
use Rattle.wire_head.specs.declared.reply.Reply.{Reply}
use Rattle.wire_head.specs.declared.reply.WireFault.{WireFault}
use Rattle.auth_runs.specs.declared.event.Event.{Event}
use Rattle.auth_runs.specs.declared.event.Event.TheVariants.{Called, Dialed, DialFailed, Drew, Headed, WriteFailed, ReadFailed, Replied, Broken, LinkLost, AskedFor, Stepped}
use Rattle.trace_rule.specs.Closings.{want}
use Rattle.trace_rule.specs.Heard.{reply_shown, fault_shown, reply_in, fault_in, rest, is_at_end, is_gone, Hears, IsHeard}
use Rattle.trace_rule.specs.Holding.{has_reply}
use Rattle.trace_rule.specs.Moves.{Want}
use Rattle.trace_rule.specs.Moves.Want.{Calls, Answers, Asks, Steps, Dials, Draws, Writes, Reads, Loses, Ends, Rests}
use Rattle.trace_rule.specs.Settings.{Setting}
use Rattle.trace_rule.specs.Tapes.{Tale, Teller, teller, wound}
use Rattle.trace_rule.specs.Tapes.Tale.{BookSaid, DrawGave, DialFault, WriteFault, ReadFault, PrompterSaid, ProviderSaid, NothingSaid}
use Rattle.trace_rule.specs.Traces.{Follows, IsCall, IsAnswer, IsAsk, IsStep, IsDial, IsDraw, IsRead, IsPast, IsRun, IsCut, IsTrace, is_over, is_spent}
use Rattle.trace_rule.proofs.Deterministic.{nothing_after}
use Rattle.trace_laws.specs.Sources.{told_beside, IsToldBeside, AreToldBeside}
use Rattle.trace_laws.proofs.Rows.{read_from}

-- a reading is wanted behind a head
reads_behind : (s : Setting) (past : List Event) → IsPast s past → (link : ℕ) → want s past ≡ Reads link → (on : ℕ) × (bytes : List ℕ) × (b : List Event) × (past ≡ Headed on bytes ∷ b)
reads_behind s past run link w = let r = read_from s past (ReadFailed link 0) refl (run, subst (λ x. Follows s past x (ReadFailed link 0)) (sym w) refl) in (r.0, r.1, r.2, r.3)

-- WHAT IS READ

-- what a rest shows
abbrev shown : ℕ → Option Reply → Option WireFault → Event
shown link (Some r) fault = Replied link r
shown link None (Some f) = Broken link f
shown link None None = LinkLost link

-- what is read, by what is told of a fault and what the rest shows
abbrev read_by : ℕ → Tale → Bool → Option Reply → Option WireFault → Event
read_by link (WriteFault count) gone r f = WriteFailed link count
read_by link (ReadFault count) gone r f = ReadFailed link count
read_by link told gone r f = if gone then LinkLost link else shown link r f

-- an end without a byte shows no reply
nothing_shown : (method : Method) (stream : Stream) (r : Reply) → IsTrue (is_at_end stream) → reply_in method stream ≡ Some r → ⊥
unfolding reply_in
nothing_shown method stream r gone e = at stream.bytes stream.ended gone e
  where
    at : (bytes : List ℕ) (ended : Bool) → IsTrue (ended && length bytes == 0) → reply_shown (reply method bytes ended) ≡ Some r → ⊥
    at [] true g k = let clash : None ≡ Some r = k in cc
    at [] false g k = false≢true g
    at (b ∷ bytes) true g k = let none : suc (length bytes) ≡ 0 = eqb-true (length (b ∷ bytes)) 0 g in omega (arith, none)
    at (b ∷ bytes) false g k = false≢true g

-- what shows a fault shows no reply
fault_alone : (method : Method) (stream : Stream) (f : WireFault) → fault_in method stream ≡ Some f → reply_in method stream ≡ None
unfolding reply_in fault_in
fault_alone method stream f e = at (reply method stream.bytes stream.ended) e
  where
    at : (answer : Result (Option (Reply × ℕ)) WireFault) → fault_shown answer ≡ Some f → reply_shown answer ≡ None
    at (Ok x) k = let clash : None ≡ Some f = k in cc
    at (Err fault) k = refl

module _ (streams : LinkName → Stream) (method : Method) (r : ℕ) where
  abbrev heard_there : ℕ → List Event → Tale → Event
  heard_there link past told = read_by link told (is_gone streams method r link past) (reply_in method (rest streams method r link past)) (fault_in method (rest streams method r link past))

  not_gone : (link : ℕ) (past : List Event) (reply : Reply) → reply_in method (rest streams method r link past) ≡ Some reply → is_gone streams method r link past ≡ false
  not_gone link past reply e = at (has_reply link past) (is_at_end (rest streams method r link past)) refl
    where
      at : (a b : Bool) → is_at_end (rest streams method r link past) ≡ b → (a && b) ≡ false
      at a true g = absurd (nothing_shown method (rest streams method r link past) reply g e)
      at true false g = refl
      at false false g = refl

  -- behind a head the event is what the stream shows, unless the reading failed
  heard_event : (link : ℕ) (past : List Event) (e : Event) → ((on : ℕ) × (bytes : List ℕ) × (b : List Event) × (past ≡ Headed on bytes ∷ b)) → IsRead past link e → Hears streams method r e past → e ≡ heard_there link past (told_beside e)
  heard_event link past (Replied on reply) behind f h =
      let there : reply_in method (rest streams method r link past) ≡ Some reply = subst (λ x. reply_in method (rest streams method r x past) ≡ Some reply) f.0 h in
      ap (λ x. Replied x reply) f.0
      ∙ sym (ap (λ b. if b then LinkLost link else shown link (reply_in method (rest streams method r link past)) (fault_in method (rest streams method r link past))) (not_gone link past reply there)
      ∙ ap (λ o. shown link o (fault_in method (rest streams method r link past))) there)
  heard_event link past (Broken on fault) behind f h =
      let there : (is_gone streams method r link past ≡ false) × (fault_in method (rest streams method r link past) ≡ Some fault) = subst (λ x. (is_gone streams method r x past ≡ false) × (fault_in method (rest streams method r x past) ≡ Some fault)) f h in
      ap (λ x. Broken x fault) f
      ∙ sym (ap (λ b. if b then LinkLost link else shown link (reply_in method (rest streams method r link past)) (fault_in method (rest streams method r link past))) there.0
      ∙ (ap (λ o. shown link o (fault_in method (rest streams method r link past))) (fault_alone method (rest streams method r link past) fault there.1)
      ∙ ap (shown link None) there.1))
  heard_event link past (LinkLost on) (headed, bytes, b, p) f h =
      let gone : IsTrue (is_gone streams method r on past) = subst (λ x. IsTrue (is_gone streams method r on x)) (sym p) (subst (Hears streams method r (LinkLost on)) p h) in
      let there : IsTrue (is_gone streams method r link past) = subst (λ x. IsTrue (is_gone streams method r x past)) f.0 gone in
      ap LinkLost f.0 ∙ sym (ap (λ b. if b then LinkLost link else shown link (reply_in method (rest streams method r link past)) (fault_in method (rest streams method r link past))) there)
  heard_event link past (WriteFailed on count) behind f h = ap (λ x. WriteFailed x count) f
  heard_event link past (ReadFailed on count) behind f h = ap (λ x. ReadFailed x count) f
  heard_event link past _ behind f h = absurd f

-- WHAT ELSE IS TOLD

abbrev reply_told : Tale → BookReply
reply_told (BookSaid text reply) = reply
reply_told _ = Begun

abbrev text_told : Tale → ℕ
text_told (BookSaid text reply) = text
text_told _ = 0

abbrev seen_told : Tale → AskSeen
seen_told (PrompterSaid seen) = seen
seen_told _ = Cancel

abbrev step_told : Tale → StepSeen
step_told (ProviderSaid step) = step
step_told _ = Done

abbrev count_told : Tale → ℕ
count_told (DialFault count) = count
count_told (DrawGave count epoch) = count
count_told _ = 0

abbrev epoch_told : Tale → ℕ
epoch_told (DrawGave count epoch) = epoch
epoch_told _ = 0

abbrev is_fault : Tale → Bool
is_fault (DialFault count) = true
is_fault _ = false

same_call : (s : Setting) (past : List Event) (call : Call) (e f : Event) → IsCall s past call e → IsCall s past call f → told_beside e ≡ told_beside f → e ≡ f
same_call s past call (Called a x) (Called b y) p q t = ap (λ c. Called c x) (p.0 ∙ sym q.0) ∙ ap (Called b) (ap reply_told t)
same_call s past call (Called a x) _ p q t = absurd q
same_call s past call _ f p q t = absurd p

same_answer : (s : Setting) (past : List Event) (n k : ℕ) (e f : Event) → IsAnswer s past n k e → IsAnswer s past n k f → told_beside e ≡ told_beside f → e ≡ f
same_answer s past n k (Called (Answer p x t) a) (Called (Answer q y u) b) g h told =
    ap (λ m. Called (Answer m x t) a) (g.0 ∙ sym h.0) ∙ (ap (λ m. Called (Answer q m t) a) (ap text_told told) ∙ (ap (λ m. Called (Answer q y m) a) (g.1 ∙ sym h.1) ∙ ap (Called (Answer q y u)) (ap reply_told told)))
same_answer s past n k (Called (Answer p x t) a) _ g h told = absurd h
same_answer s past n k _ f g h told = absurd g

same_ask : (n : ℕ) (e f : Event) → IsAsk n e → IsAsk n f → told_beside e ≡ told_beside f → e ≡ f
same_ask n (AskedFor p x) (AskedFor q y) g h t = ap (λ m. AskedFor m x) (g ∙ sym h) ∙ ap (AskedFor q) (ap seen_told t)
same_ask n (AskedFor p x) _ g h t = absurd h
same_ask n _ f g h t = absurd g

same_step : (t : Target) (e f : Event) → IsStep t e → IsStep t f → told_beside e ≡ told_beside f → e ≡ f
same_step t (Stepped a x) (Stepped b y) g h told = ap (λ m. Stepped m x) (g ∙ sym h) ∙ ap (Stepped b) (ap step_told told)
same_step t (Stepped a x) _ g h told = absurd h
same_step t _ f g h told = absurd g

same_dial : (n : ℕ) (e f : Event) → IsDial n e → IsDial n f → told_beside e ≡ told_beside f → e ≡ f
same_dial n (Dialed a) (Dialed b) g h t = ap Dialed (g ∙ sym h)
same_dial n (DialFailed a x) (DialFailed b y) g h t = ap (λ m. DialFailed m x) (g ∙ sym h) ∙ ap (DialFailed b) (ap count_told t)
same_dial n (Dialed a) (DialFailed b y) g h t = absurd (false≢true (ap is_fault t))
same_dial n (DialFailed a x) (Dialed b) g h t = absurd (false≢true (ap is_fault (sym t)))
same_dial n (Dialed a) _ g h t = absurd h
same_dial n (DialFailed a x) _ g h t = absurd h
same_dial n _ f g h t = absurd g

same_draw : (t : Target) (n : ℕ) (e f : Event) → IsDraw t n e → IsDraw t n f → told_beside e ≡ told_beside f → e ≡ f
same_draw t n (Drew a x c i) (Drew b y d j) g h told =
    ap (λ m. Drew m x c i) (g.0 ∙ sym h.0) ∙ (ap (λ m. Drew b m c i) (g.1 ∙ sym h.1) ∙ (ap (λ m. Drew b y m i) (ap count_told told) ∙ ap (Drew b y d) (ap epoch_told told)))
same_draw t n (Drew a x c i) _ g h told = absurd h
same_draw t n _ f g h told = absurd g

abbrev first_of : List Tale → Tale
first_of [] = NothingSaid
first_of (x ∷ xs) = x

-- EVENT BY EVENT

module _ (s : Setting) (streams : LinkName → Stream) where
  abbrev Heard : Event → List Event → Type 0
  Heard e past = Hears streams s.request.method s.number e past

  -- the same comes next
  same_next : (past : List Event) (w : Want) (e f : Event) (tapes : Teller → List Tale) → (((link : ℕ) → w ≡ Reads link → (on : ℕ) × (bytes : List ℕ) × (b : List Event) × (past ≡ Headed on bytes ∷ b)))
      → Follows s past w e → Follows s past w f → Heard e past → Heard f past → IsToldBeside (teller w) e tapes → IsToldBeside (teller w) f tapes → e ≡ f
  same_next past (Writes link bytes) e f tapes behind p q h k a b = p ∙ sym q
  same_next past (Loses link) e f tapes behind p q h k a b = p ∙ sym q
  same_next past (Ends outcome) e f tapes behind p q h k a b = p ∙ sym q
  same_next past Rests e f tapes behind p q h k a b = absurd p
  same_next past (Calls call) e f tapes behind p q h k a b = same_call s past call e f p q (ap first_of (sym a ∙ b))
  same_next past (Answers prompt terms) e f tapes behind p q h k a b = same_answer s past prompt terms e f p q (ap first_of (sym a ∙ b))
  same_next past (Asks prompt) e f tapes behind p q h k a b = same_ask prompt e f p q (ap first_of (sym a ∙ b))
  same_next past (Steps target asking) e f tapes behind p q h k a b = same_step target e f p q (ap first_of (sym a ∙ b))
  same_next past (Dials link) e f tapes behind p q h k a b = same_dial link e f p q (ap first_of (sym a ∙ b))
  same_next past (Draws target nonce) e f tapes behind p q h k a b = same_draw target nonce e f p q (ap first_of (sym a ∙ b))
  same_next past (Reads link) e f tapes behind p q h k a b =
      heard_event streams s.request.method s.number link past e (behind link refl) p h
      ∙ (ap (heard_there streams s.request.method s.number link past) (ap first_of (sym a ∙ b))
      ∙ sym (heard_event streams s.request.method s.number link past f (behind link refl) q k))

  -- FORWARD

  abbrev IsPastOn : List Event → List Event → Type 0
  IsPastOn past [] = Unit {0}
  IsPastOn past (event ∷ events) = Follows s past (want s past) event × Heard event past × IsPastOn (event ∷ past) events

  abbrev ends_over : List Event → List Event → Bool
  ends_over past [] = is_over past
  ends_over past (event ∷ events) = ends_over (event ∷ past) events

  determined_on : (past a b : List Event) (tapes : Teller → List Tale) → IsPast s past → IsPastOn past a → IsPastOn past b
      → IsTrue (ends_over past a) → IsTrue (ends_over past b) → AreToldBeside s past a tapes → AreToldBeside s past b tapes → a ≡ b
  determined_on past [] [] tapes run p q over_a over_b told_a told_b = refl
  determined_on past [] (f ∷ b) tapes run p q over_a over_b told_a told_b = absurd (nothing_after s past f over_a q.0)
  determined_on past (e ∷ a) [] tapes run p q over_a over_b told_a told_b = absurd (nothing_after s past e over_b p.0)
  determined_on past (e ∷ a) (f ∷ b) tapes run p q over_a over_b told_a told_b =
      let same : e ≡ f = same_next past (want s past) e f tapes (reads_behind s past run) p.0 q.0 p.1 q.1 told_a.0 told_b.0 in
      subst (λ x. IsPastOn past (x ∷ b) → IsTrue (ends_over past (x ∷ b)) → AreToldBeside s past (x ∷ b) tapes → e ∷ a ≡ x ∷ b)
      same
      (λ later over told. ap (λ xs. e ∷ xs) (determined_on (e ∷ past) a b (wound (teller (want s past)) tapes) (run, p.0) p.2 later.2 over_a over told_a.1 told.1))
      q over_b told_b

  reversed : (e : Event) (events past : List Event) → reverse (e ∷ events) ++ past ≡ reverse events ++ e ∷ past
  reversed e events past = ap (λ xs. xs ++ past) (reverse-append (e ∷ []) events) ∙ append_assoc (reverse events) (e ∷ []) past

  abbrev IsHeardPast : List Event → Type 0
  IsHeardPast past = IsHeard streams s.request.method s.number past

  forward : (past events : List Event) → IsPast s (reverse events ++ past) → IsHeardPast (reverse events ++ past) → (IsPast s past × IsHeardPast past) × IsPastOn past events
  forward past [] run heard = ((run, heard), tt)
  forward past (e ∷ events) run heard =
      let later = forward (e ∷ past) events (subst (IsPast s) (reversed e events past) run) (subst IsHeardPast (reversed e events past) heard) in
      ((later.0.0.0, later.0.1.0), (later.0.0.1, later.0.1.1, later.1))

  over_forward : (past events : List Event) → is_over (reverse events ++ past) ≡ ends_over past events
  over_forward past [] = refl
  over_forward past (e ∷ events) = ap is_over (reversed e events past) ∙ over_forward (e ∷ past) events

  whole : (past : List Event) → IsRun s past ⊎ IsCut s past → is_spent past ≡ false → IsRun s past
  whole past (inl run) unspent = run
  whole past (inr cut) unspent = absurd (false≢true (sym unspent ∙ ap is_spent cut.1.cut))

  pub determined : (a b : List Event) (tapes : Teller → List Tale) → IsTrace s a → IsTrace s b → is_spent (reverse a) ≡ false → is_spent (reverse b) ≡ false
      → IsHeardPast (reverse a) → IsHeardPast (reverse b) → AreToldBeside s [] a tapes → AreToldBeside s [] b tapes → a ≡ b
  determined a b tapes p q unspent_a unspent_b heard_a heard_b told_a told_b =
      let run_a = whole (reverse a) p unspent_a in
      let run_b = whole (reverse b) q unspent_b in
      determined_on [] a b tapes tt
      (forward [] a (subst (IsPast s) (sym (append-nil (reverse a))) run_a.0) (subst IsHeardPast (sym (append-nil (reverse a))) heard_a)).1
      (forward [] b (subst (IsPast s) (sym (append-nil (reverse b))) run_b.0) (subst IsHeardPast (sym (append-nil (reverse b))) heard_b)).1
      (sym (over_forward [] a) ∙ (ap is_over (append-nil (reverse a)) ∙ run_a.1)) (sym (over_forward [] b) ∙ (ap is_over (append-nil (reverse b)) ∙ run_b.1))
      told_a told_b
