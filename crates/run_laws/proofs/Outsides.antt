-- Behind one past the outside makes one event, but for calls and draws.
use Rattle.std.proofs.Common.{◌≡◌, ◌⊎◌, inl, inr, ℕ, suc, ◌+◌, Bool, true, false, ◌&&◌, ◌||◌, ◌==◌, IsTrue, List, [], ◌∷◌, ◌++◌, length, reverse, map, drop, Option, Some, None, Result, Ok, Err, refl, sym, ap, ◌∙◌, subst, append_assoc, arith}
use Rattle.std.specs.List.{list_all, list_any, range_with_len}
use Rattle.std.proofs.lemmas.List.{reverse-append, append-nil}
use Rattle.std.proofs.lemmas.Bool.{false≢true, eqb-true}
use Rattle.auth_text.specs.Login.{Login}
use Rattle.spaces.specs.declared.roster.Method.{Method}
use Rattle.spaces.specs.declared.site.Target.{Target}
use Rattle.link_trait.specs.Links.{Stream}
use Rattle.link_trait.specs.declared.links.LinkName.{LinkName}
use Rattle.link_trait.specs.declared.prompts.AskSeen.{AskSeen}
use Rattle.link_trait.specs.declared.prompts.AskSeen.TheVariants.{Given, Cancel, Failed as AskFailed, NoMemory as AskNoMemory}
use Rattle.link_trait.specs.declared.steps.Step.{Step}
use Rattle.link_trait.specs.declared.steps.Step.TheVariants.{Token as GaveToken, Done as GaveDone, Refused as GaveRefused}
use Rattle.link_trait.specs.declared.steps.StepSeen.{StepSeen}
use Rattle.link_trait.specs.declared.steps.StepSeen.TheVariants.{Token, Done, Refused, NoMechanism, Failed, NoMemory}
use Rattle.wire_head.specs.Replies.{reply}
use Rattle.wire_head.specs.declared.reply.Reply.{Reply}
use Rattle.wire_head.specs.declared.reply.WireFault.{WireFault}
use Rattle.auth_runs.specs.declared.event.Event.{Event}
use Rattle.auth_runs.specs.declared.event.Event.TheVariants.{Dialed, DialFailed, Headed, WriteFailed, ReadFailed, Replied, Broken, LinkLost, AskedFor, Stepped}
use Rattle.trace_rule.specs.Closings.{want}
use Rattle.trace_rule.specs.Heard.{reply_shown, fault_shown, reply_in, fault_in, rest, is_at_end, is_gone, Hears, IsHeard}
use Rattle.trace_rule.specs.Holding.{has_reply}
use Rattle.trace_rule.specs.Moves.{Want}
use Rattle.trace_rule.specs.Moves.Want.{Calls, Answers, Asks, Steps, Dials, Draws, Writes, Reads, Loses, Ends, Rests}
use Rattle.trace_rule.specs.Settings.{Setting}
use Rattle.trace_rule.specs.Traces.{Follows, IsAsk, IsStep, IsDial, IsRead, IsPast, IsRun, IsCut, IsTrace, is_over, is_spent}
use Rattle.trace_rule.proofs.Knowing.{both_of}
use Rattle.trace_laws.proofs.Rows.{read_from}
use Rattle.run_rule.specs.Failing.{is_fault, wants_memory}
use Rattle.run_rule.specs.Outside.{is_answer_seen, steps_in}

pub or_both : (a b : Bool) → (a || b) ≡ false → (a ≡ false) × (b ≡ false)
or_both true b none = absurd (false≢true (sym none))
or_both false b none = (refl, none)

-- READINGS

abbrev pub IsHead : List Event → Type 0
IsHead past = (on : ℕ) × (bytes : List ℕ) × (before : List Event) × (past ≡ Headed on bytes ∷ before)

pub reads_behind : (s : Setting) (past : List Event) → IsPast s past → (link : ℕ) → want s past ≡ Reads link → IsHead past
reads_behind s past run link w = let r = read_from s past (ReadFailed link 0) refl (run, subst (λ x. Follows s past x (ReadFailed link 0)) (sym w) refl) in (r.0, r.1, r.2, r.3)

-- an end without a byte shows no reply
nothing_shown : (method : Method) (stream : Stream) (r : Reply) → IsTrue (is_at_end stream) → reply_in method stream ≡ Some r → ⊥
unfolding reply_in
nothing_shown method stream r gone e = at stream.bytes stream.ended gone e
  where
    at : (bytes : List ℕ) (ended : Bool) → IsTrue (ended && length bytes == 0) → reply_shown (reply method bytes ended) ≡ Some r → ⊥
    at [] true g k = let clash : None ≡ Some r = k in cc
    at [] false g k = false≢true g
    at (b ∷ bytes) true g k = let none : suc (length bytes) ≡ 0 = eqb-true (length (b ∷ bytes)) 0 g in omega (arith, none)
    at (b ∷ bytes) false g k = false≢true g

-- what shows a fault shows no reply
fault_alone : (method : Method) (stream : Stream) (f : WireFault) → fault_in method stream ≡ Some f → reply_in method stream ≡ None
unfolding reply_in fault_in
fault_alone method stream f e = at (reply method stream.bytes stream.ended) e
  where
    at : (answer : Result (Option (Reply × ℕ)) WireFault) → fault_shown answer ≡ Some f → reply_shown answer ≡ None
    at (Ok x) k = let clash : None ≡ Some f = k in cc
    at (Err fault) k = refl

module _ (streams : LinkName → Stream) (method : Method) (r : ℕ) where
  abbrev left : ℕ → List Event → Stream
  left link past = rest streams method r link past

  -- what is read of the link by its stream alone
  abbrev Shows : ℕ → List Event → Event → Type 0
  Shows link past e =
      ((reply : Reply) × (e ≡ Replied link reply) × (reply_in method (left link past) ≡ Some reply))
      ⊎ (((fault : WireFault) × (e ≡ Broken link fault) × (is_gone streams method r link past ≡ false) × (fault_in method (left link past) ≡ Some fault))
      ⊎ ((e ≡ LinkLost link) × IsTrue (is_gone streams method r link past)))

  shows : (link : ℕ) (past : List Event) (e : Event) → IsHead past → is_fault e ≡ false → IsRead past link e → Hears streams method r e past → Shows link past e
  shows link past (Replied on reply) behind calm f h = inl (reply, ap (λ x. Replied x reply) f.0, subst (λ x. reply_in method (left x past) ≡ Some reply) f.0 h)
  shows link past (Broken on fault) behind calm f h =
      inr (inl (fault, ap (λ x. Broken x fault) f, subst (λ x. is_gone streams method r x past ≡ false) f h.0, subst (λ x. fault_in method (left x past) ≡ Some fault) f h.1))
  shows link past (LinkLost on) (headed, bytes, b, p) calm f h =
      let gone : IsTrue (is_gone streams method r on past) = subst (λ x. IsTrue (is_gone streams method r on x)) (sym p) (subst (Hears streams method r (LinkLost on)) p h) in
      inr (inr (ap LinkLost f.0, subst (λ x. IsTrue (is_gone streams method r x past)) f.0 gone))
  shows link past (WriteFailed on count) behind calm f h = absurd (false≢true (sym calm))
  shows link past (ReadFailed on count) behind calm f h = absurd (false≢true (sym calm))
  shows link past _ behind calm f h = absurd f

  reply_or_fault : (stream : Stream) (x : Reply) (y : WireFault) → reply_in method stream ≡ Some x → fault_in method stream ≡ Some y → ⊥
  reply_or_fault stream x y p q = let clash : None ≡ Some x = sym (fault_alone method stream y q) ∙ p in cc

  reply_or_end : (link : ℕ) (past : List Event) (x : Reply) → reply_in method (left link past) ≡ Some x → IsTrue (is_gone streams method r link past) → ⊥
  reply_or_end link past x p gone = nothing_shown method (left link past) x (both_of (has_reply link past) (is_at_end (left link past)) gone).1 p

  same_shown : (link : ℕ) (past : List Event) (e f : Event) → Shows link past e → Shows link past f → e ≡ f
  same_shown link past e f (inl (x, e_is, p)) (inl (y, f_is, q)) = let same : Some x ≡ Some y = sym p ∙ q in let here : x ≡ y = cc in e_is ∙ (ap (Replied link) here ∙ sym f_is)
  same_shown link past e f (inr (inl (x, e_is, k, p))) (inr (inl (y, f_is, l, q))) = let same : Some x ≡ Some y = sym p ∙ q in let here : x ≡ y = cc in e_is ∙ (ap (Broken link) here ∙ sym f_is)
  same_shown link past e f (inr (inr (e_is, g))) (inr (inr (f_is, h))) = e_is ∙ sym f_is
  same_shown link past e f (inl (x, e_is, p)) (inr (inl (y, f_is, l, q))) = absurd (reply_or_fault (left link past) x y p q)
  same_shown link past e f (inr (inl (y, e_is, l, q))) (inl (x, f_is, p)) = absurd (reply_or_fault (left link past) x y p q)
  same_shown link past e f (inl (x, e_is, p)) (inr (inr (f_is, h))) = absurd (reply_or_end link past x p h)
  same_shown link past e f (inr (inr (e_is, h))) (inl (x, f_is, p)) = absurd (reply_or_end link past x p h)
  same_shown link past e f (inr (inl (y, e_is, l, q))) (inr (inr (f_is, h))) = absurd (false≢true (sym l ∙ h))
  same_shown link past e f (inr (inr (e_is, h))) (inr (inl (y, f_is, l, q))) = absurd (false≢true (sym l ∙ h))

-- PROMPTS AND STEPS

abbrev seen_by : Option Login → AskSeen
seen_by (Some login) = Given
seen_by None = Cancel

is_seen : (p : ℕ) (seen : AskSeen) (answer : Option Login) → is_fault (AskedFor p seen) ≡ false → wants_memory (AskedFor p seen) ≡ false → IsTrue (is_answer_seen seen answer) → seen ≡ seen_by answer
is_seen p Given (Some login) calm room right = refl
is_seen p Given None calm room right = absurd (false≢true right)
is_seen p Cancel (Some login) calm room right = absurd (false≢true right)
is_seen p Cancel None calm room right = refl
is_seen p (AskFailed count) answer calm room right = absurd (false≢true (sym calm))
is_seen p AskNoMemory answer calm room right = absurd (false≢true (sym room))

abbrev seen_of : Step → StepSeen
seen_of (GaveToken token) = Token token
seen_of GaveDone = Done
seen_of GaveRefused = Refused
seen_of _ = NoMechanism

abbrev first_or : {A : Type 0} → A → List A → A
first_or a [] = a
first_or a (x ∷ xs) = x

-- the steps are those of the provider from the kth on
abbrev pub AreFrom : (ℕ → Step) → ℕ → List Event → Type 0
AreFrom steps k events = steps_in events ≡ map steps (range_with_len k (length (steps_in events)))

is_stepped : (steps : ℕ → Step) (k : ℕ) (t : Target) (seen : StepSeen) (events : List Event) → is_fault (Stepped t seen) ≡ false → wants_memory (Stepped t seen) ≡ false → AreFrom steps k (Stepped t seen ∷ events) → seen ≡ seen_of (steps k)
is_stepped steps k t (Token token) events calm room from = ap (λ xs. seen_of (first_or GaveDone xs)) from
is_stepped steps k t Done events calm room from = ap (λ xs. seen_of (first_or GaveRefused xs)) from
is_stepped steps k t Refused events calm room from = ap (λ xs. seen_of (first_or GaveDone xs)) from
is_stepped steps k t NoMechanism events calm room from = ap (λ xs. seen_of (first_or GaveDone xs)) from
is_stepped steps k t (Failed count) events calm room from = absurd (false≢true (sym calm))
is_stepped steps k t NoMemory events calm room from = absurd (false≢true (sym room))

abbrev pub behind : ℕ → Event → ℕ
behind k (Stepped t seen) = k + 1
behind k _ = k

pub steps_behind : (steps : ℕ → Step) (k : ℕ) (e : Event) (events : List Event) → is_fault e ≡ false → wants_memory e ≡ false → AreFrom steps k (e ∷ events) → AreFrom steps (behind k e) events
steps_behind steps k (Stepped t (Token token)) events calm room from = ap (drop 1) from
steps_behind steps k (Stepped t Done) events calm room from = ap (drop 1) from
steps_behind steps k (Stepped t Refused) events calm room from = ap (drop 1) from
steps_behind steps k (Stepped t NoMechanism) events calm room from = ap (drop 1) from
steps_behind steps k (Stepped t (Failed count)) events calm room from = absurd (false≢true (sym calm))
steps_behind steps k (Stepped t NoMemory) events calm room from = absurd (false≢true (sym room))
steps_behind steps k _ events calm room from = from

-- THE NEXT EVENT

-- the outside makes what comes next
abbrev pub IsOutside : Want → Type 0
IsOutside (Calls call) = ⊥
IsOutside (Answers prompt terms) = ⊥
IsOutside (Draws target nonce) = ⊥
IsOutside _ = Unit {0}

module _ (s : Setting) (streams : LinkName → Stream) (answer : ℕ → Option Login) (steps : ℕ → Step) where
  abbrev pub is_right : Event → Bool
  is_right (AskedFor prompt seen) = is_answer_seen seen (answer prompt)
  is_right _ = true

  -- what the event is by itself: no fault, no want of memory, and the answer that the outside has
  abbrev pub IsCalm : Event → Type 0
  IsCalm e = (is_fault e ≡ false) × (wants_memory e ≡ false) × IsTrue (is_right e)

  same_ask : (n : ℕ) (e f : Event) → IsAsk n e → IsAsk n f → IsCalm e → IsCalm f → e ≡ f
  same_ask n (AskedFor p x) (AskedFor q y) g h c d =
      ap (λ m. AskedFor m x) (g ∙ sym h) ∙ ap (AskedFor q) (is_seen p x (answer p) c.0 c.1 c.2 ∙ (ap (λ m. seen_by (answer m)) (g ∙ sym h) ∙ sym (is_seen q y (answer q) d.0 d.1 d.2)))
  same_ask n (AskedFor p x) _ g h c d = absurd h
  same_ask n _ f g h c d = absurd g

  same_step : (k : ℕ) (t : Target) (e f : Event) (a b : List Event) → IsStep t e → IsStep t f → IsCalm e → IsCalm f → AreFrom steps k (e ∷ a) → AreFrom steps k (f ∷ b) → e ≡ f
  same_step k t (Stepped u x) (Stepped v y) a b g h c d p q =
      ap (λ m. Stepped m x) (g ∙ sym h) ∙ ap (Stepped v) (is_stepped steps k u x a c.0 c.1 p ∙ sym (is_stepped steps k v y b d.0 d.1 q))
  same_step k t (Stepped u x) _ a b g h c d p q = absurd h
  same_step k t _ f a b g h c d p q = absurd g

  same_dial : (n : ℕ) (e f : Event) → IsDial n e → IsDial n f → is_fault e ≡ false → is_fault f ≡ false → e ≡ f
  same_dial n (Dialed a) (Dialed b) g h c d = ap Dialed (g ∙ sym h)
  same_dial n (DialFailed a x) f g h c d = absurd (false≢true (sym c))
  same_dial n (Dialed a) (DialFailed b y) g h c d = absurd (false≢true (sym d))
  same_dial n (Dialed a) _ g h c d = absurd h
  same_dial n _ f g h c d = absurd g

  pub same_outside : (k : ℕ) (past : List Event) (w : Want) (e f : Event) (a b : List Event) → IsOutside w → ((link : ℕ) → w ≡ Reads link → IsHead past)
      → Follows s past w e → Follows s past w f → Hears streams s.request.method s.number e past → Hears streams s.request.method s.number f past → IsCalm e → IsCalm f
      → AreFrom steps k (e ∷ a) → AreFrom steps k (f ∷ b) → e ≡ f
  same_outside k past (Writes link bytes) e f a b o head p q h i c d m n = p ∙ sym q
  same_outside k past (Loses link) e f a b o head p q h i c d m n = p ∙ sym q
  same_outside k past (Ends outcome) e f a b o head p q h i c d m n = p ∙ sym q
  same_outside k past Rests e f a b o head p q h i c d m n = absurd p
  same_outside k past (Calls call) e f a b o head p q h i c d m n = absurd o
  same_outside k past (Answers prompt terms) e f a b o head p q h i c d m n = absurd o
  same_outside k past (Draws target nonce) e f a b o head p q h i c d m n = absurd o
  same_outside k past (Asks prompt) e f a b o head p q h i c d m n = same_ask prompt e f p q c d
  same_outside k past (Steps target asking) e f a b o head p q h i c d m n = same_step k target e f a b p q c d m n
  same_outside k past (Dials link) e f a b o head p q h i c d m n = same_dial link e f p q c.0 d.0
  same_outside k past (Reads link) e f a b o head p q h i c d m n =
      same_shown streams s.request.method s.number link past e f
      (shows streams s.request.method s.number link past e (head link refl) c.0 p h) (shows streams s.request.method s.number link past f (head link refl) d.0 q i)

  -- FORWARD

  abbrev pub IsOn : List Event → List Event → Type 0
  IsOn past [] = Unit {0}
  IsOn past (e ∷ events) = (Follows s past (want s past) e × Hears streams s.request.method s.number e past × IsCalm e) × IsOn (e ∷ past) events

  abbrev pub ends_over : List Event → List Event → Bool
  ends_over past [] = is_over past
  ends_over past (e ∷ events) = ends_over (e ∷ past) events

  abbrev IsHeardPast : List Event → Type 0
  IsHeardPast past = IsHeard streams s.request.method s.number past

  reversed : (e : Event) (events past : List Event) → reverse (e ∷ events) ++ past ≡ reverse events ++ e ∷ past
  reversed e events past = ap (λ xs. xs ++ past) (reverse-append (e ∷ []) events) ∙ append_assoc (reverse events) (e ∷ []) past

  forward : (past events : List Event) → IsPast s (reverse events ++ past) → IsHeardPast (reverse events ++ past)
      → list_any is_fault events ≡ false → list_any wants_memory events ≡ false → IsTrue (list_all is_right events) → (IsPast s past × IsHeardPast past) × IsOn past events
  forward past [] run heard calm room right = ((run, heard), tt)
  forward past (e ∷ events) run heard calm room right =
      let no_fault = or_both (is_fault e) (list_any is_fault events) calm in
      let no_want = or_both (wants_memory e) (list_any wants_memory events) room in
      let answered = both_of (is_right e) (list_all is_right events) right in
      let later = forward (e ∷ past) events (subst (IsPast s) (reversed e events past) run) (subst IsHeardPast (reversed e events past) heard) no_fault.1 no_want.1 answered.1 in
      ((later.0.0.0, later.0.1.0), ((later.0.0.1, later.0.1.1, (no_fault.0, no_want.0, answered.0)), later.1))

  over_forward : (past events : List Event) → is_over (reverse events ++ past) ≡ ends_over past events
  over_forward past [] = refl
  over_forward past (e ∷ events) = ap is_over (reversed e events past) ∙ over_forward (e ∷ past) events

  whole : (past : List Event) → IsRun s past ⊎ IsCut s past → is_spent past ≡ false → IsRun s past
  whole past (inl run) unspent = run
  whole past (inr cut) unspent = absurd (false≢true (sym unspent ∙ ap is_spent cut.1.cut))

  -- a trace that the outside alone makes, but for its calls and draws
  pub record IsMade (events : List Event) : Type 0 where
    pub is_trace : IsTrace s events
    pub unspent : is_spent (reverse events) ≡ false
    pub heard : IsHeard streams s.request.method s.number (reverse events)
    pub calm : list_any is_fault events ≡ false
    pub room : list_any wants_memory events ≡ false
    pub right : IsTrue (list_all is_right events)
    pub stepped : AreFrom steps 1 events

  pub on : (events : List Event) → IsMade events → IsOn [] events
  on events made =
      (forward [] events (subst (IsPast s) (sym (append-nil (reverse events))) (whole (reverse events) made.is_trace made.unspent).0)
      (subst IsHeardPast (sym (append-nil (reverse events))) made.heard) made.calm made.room made.right).1

  pub over : (events : List Event) → IsMade events → IsTrue (ends_over [] events)
  over events made = sym (over_forward [] events) ∙ (ap is_over (append-nil (reverse events)) ∙ (whole (reverse events) made.is_trace made.unspent).1)
