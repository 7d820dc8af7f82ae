-- What was written, at the end of a request: a front of the last head where its write did not succeed.
use Rattle.std.proofs.Common.{◌≡◌, inl, inr, ℕ, ◌==◌, Bool, true, false, ◌||◌, IsTrue, List, [], ◌∷◌, is_some, refl, sym, ap, ◌∙◌, subst, if◌then◌else◌, arith}
use Rattle.std.specs.declared.option.Option.{Option}
use Rattle.std.proofs.lemmas.Bool.{false≢true}
use Rattle.std.specs.List.{list_any}
use Rattle.spaces.specs.declared.roster.Request.{Request}
use Rattle.spaces.specs.declared.site.Target.TheVariants.{Server, Proxy}
use Rattle.auth_events.specs.Past.{settles as call_settles}
use Rattle.auth_events.specs.declared.journal.Call.TheVariants.{Select, Renew, Lose, End as CallEnd}
use Rattle.auth_events.specs.declared.journal.BookReply.{BookReply}
use Rattle.auth_events.specs.declared.journal.BookReply.TheVariants.{Lead, Lost, Ended as RequestEnded}
use Rattle.auth_events.specs.declared.journal.Loss.TheVariants.{Memory}
use Rattle.auth_events.specs.declared.journal.Drawn.{Drawn as CountDrawn}
use Rattle.link_trait.specs.declared.links.LinkName.{LinkName}
use Rattle.link_trait.specs.declared.dialer.Traffic.{Traffic}
use Rattle.auth_runs.specs.declared.event.Event.{Event}
use Rattle.auth_runs.specs.declared.event.Event.TheVariants.{Called, Drew, Headed, Ended}
use Rattle.auth_runs.specs.declared.event.Outcome.{Outcome}
use Rattle.auth_runs.specs.declared.event.Outcome.TheVariants.{NoMemory}
use Rattle.trace_rule.specs.Entries.{Made, calls}
use Rattle.trace_rule.specs.Settings.{Setting}
use Rattle.trace_rule.specs.Telling.{Written, is_write_fault, is_cut_at_head, is_short, IsSent}
use Rattle.trace_rule.specs.Moves.{Want, move}
use Rattle.trace_rule.specs.Moves.Want.{Ends, Rests, Reads}
use Rattle.trace_rule.specs.Moves.Move.{Goes, Closes}
use Rattle.trace_rule.specs.Closings.{want}
use Rattle.trace_rule.specs.Traces.{IsPast, is_end, is_over, prompt_open, settles}
use Rattle.trace_rule.proofs.Stages.{AllDone, Stage as PromptStage, stage}
use Rattle.trace_rule.proofs.Stages.Stage.{is_asked, is_following, is_led, quiet}
use Rattle.trace_laws.proofs.Settling.{event_settles}
use Rattle.request_machine.specs.declared.gave.Gave.{Gave}
use Rattle.request_machine.specs.declared.gave.Gave.TheVariants.{Reply, Drawn}
use Rattle.request_machine.specs.declared.stage.Stage.{Stage}
use Rattle.request_machine.specs.declared.stage.Stage.TheVariants.{Draw, NextNonce, NameLast, RenewLast, Close, End, Spent, SpentEnd, SpentOver, Over}
use Rattle.request_machine.specs.Kept.{Kept, Ties, IsStage, is_after_end}
use Rattle.request_machine.specs.Gives.{call_at, is_heard, past_replied, past_drawn, past_given}
use Rattle.request_machine.specs.Linked.{way, goes_on, is_ending, line}
use Rattle.request_machine.specs.Carried.{is_at_head, is_ended_at_head, is_short_at, IsSentAt, IsCarried, TellsTraffic}
use Rattle.request_machine.proofs.Carrying.{IsStillPast, same_past, still_past, carried_still, carried_line, goes_ends}

-- NO PROMPT IS OPEN AT A HEAD

-- where nothing waits no prompt is open
none_open : (whole past : List Event) (xs : List Made) → AllDone xs (calls past) → ((p : ℕ) → IsTrue (list_any (λ x. call_settles x.call p) xs) → IsTrue (list_any (settles p) whole)) → prompt_open whole past ≡ 0
none_open whole [] xs a f = refl
none_open whole (Called (Select space terms) (Lead prompt ordinal) ∷ past) xs a f = ap (λ b. if b then 0 else prompt) (f prompt (a.0.0 refl))
none_open whole (Called call reply ∷ past) xs a f = none_open whole past xs a.1 f
none_open whole (_ ∷ past) xs a f = none_open whole past xs a f

pub unled : (s : Setting) (past : List Event) → IsPast s past → is_at_head past ≡ true → prompt_open past past ≡ 0
unled s past run head = at (stage s past run)
  where
    at : PromptStage past → prompt_open past past ≡ 0
    at (quiet still a) = none_open past past (calls past) a (λ p h. event_settles p past ∙ h)
    at (is_led c p o b e a) = absurd (false≢true (ap is_at_head (sym e) ∙ head))
    at (is_following c p b e a) = absurd (false≢true (ap is_at_head (sym e) ∙ head))
    at (is_asked c p o seen b e a) = absurd (false≢true (ap is_at_head (sym e) ∙ head))

-- WHAT IS SHORT

-- the past, which is at its end, may have a short head
abbrev pub is_short_in : List Event → Bool
is_short_in past = is_short past || (is_at_head past || is_ended_at_head past)

-- by which of four
data WhyShort (past : List Event) : Type 0 where
  faulted : list_any is_write_fault past ≡ true → WhyShort past
  cut : is_cut_at_head past ≡ true → WhyShort past
  headed : is_at_head past ≡ true → WhyShort past
  ended_headed : is_ended_at_head past ≡ true → WhyShort past

why_short : (past : List Event) → is_short_in past ≡ true → WhyShort past
why_short past short = at (list_any is_write_fault past) (is_cut_at_head past) (is_at_head past) (is_ended_at_head past) refl refl refl refl short
  where
    at : (a b c d : Bool) → list_any is_write_fault past ≡ a → is_cut_at_head past ≡ b → is_at_head past ≡ c → is_ended_at_head past ≡ d → ((a || b) || (c || d)) ≡ true → WhyShort past
    at true b c d ea eb ec ed k = faulted ea
    at false true c d ea eb ec ed k = cut eb
    at false false true d ea eb ec ed k = headed ec
    at false false false d ea eb ec ed k = ended_headed (ed ∙ k)

fault_short : (past : List Event) → list_any is_write_fault past ≡ true → is_short_in past ≡ true
fault_short past e = ap (λ b. (b || is_cut_at_head past) || (is_at_head past || is_ended_at_head past)) e

ended_short : (past : List Event) → is_ended_at_head past ≡ true → is_short_in past ≡ true
ended_short past e = ap (λ b. is_short past || (is_at_head past || b)) e ∙ at (is_short past) (is_at_head past)
  where
    at : (a b : Bool) → (a || (b || true)) ≡ true
    at true b = refl
    at false true = refl
    at false false = refl

goes_not_closes : (want : Want) (o : Outcome) → ¬ (Goes want ≡ Closes o)
goes_not_closes want o e = cc

-- where the request closes, it is short by a fault
closes_fault : (s : Setting) (past : List Event) (o : Outcome) → move s past ≡ Closes o → is_short_in past ≡ true → list_any is_write_fault past ≡ true
closes_fault s past o closes short = at (why_short past short)
  where
    not_headed : (xs : List Event) → move s xs ≡ Closes o → is_at_head xs ≡ true → ⊥
    not_headed (Headed link bytes ∷ xs) k e = goes_not_closes (Reads link) o k
    not_headed _ k e = false≢true e

    not_ended : (xs : List Event) → move s xs ≡ Closes o → is_ended_at_head xs ≡ true → ⊥
    not_ended (Called CallEnd reply ∷ xs) k e = not_headed xs k e
    not_ended _ k e = false≢true e

    not_cut : (xs : List Event) → move s xs ≡ Closes o → is_cut_at_head xs ≡ true → ⊥
    not_cut (Ended NoMemory ∷ Called CallEnd reply ∷ Headed link bytes ∷ xs) k e = goes_not_closes Rests o k
    not_cut _ k e = false≢true e

    at : WhyShort past → list_any is_write_fault past ≡ true
    at (faulted e) = e
    at (cut e) = absurd (not_cut past closes e)
    at (headed e) = absurd (not_headed past closes e)
    at (ended_headed e) = absurd (not_ended past closes e)

-- what has ended at a head has its `End`
ended_end : (past : List Event) → is_ended_at_head past ≡ true → list_any is_end past ≡ true
ended_end (Called CallEnd reply ∷ xs) e = refl
ended_end _ e = absurd (false≢true e)

cut_end : (past : List Event) → is_cut_at_head past ≡ true → list_any is_end past ≡ true
cut_end (Ended NoMemory ∷ Called CallEnd reply ∷ Headed link bytes ∷ xs) e = refl
cut_end _ e = absurd (false≢true e)

-- BY WHAT THE CALLER GIVES

-- behind `End` at a head, and behind a fault, it is short still
ended_behind : (past : List Event) (reply : BookReply) → list_any is_end past ≡ false → is_short_in past ≡ true → is_short_in (Called CallEnd reply ∷ past) ≡ true
ended_behind past reply unended short = at (why_short past short)
  where
    at : WhyShort past → is_short_in (Called CallEnd reply ∷ past) ≡ true
    at (faulted e) = fault_short (Called CallEnd reply ∷ past) e
    at (cut e) = absurd (false≢true (sym unended ∙ cut_end past e))
    at (headed e) = ended_short (Called CallEnd reply ∷ past) e
    at (ended_headed e) = absurd (false≢true (sym unended ∙ ended_end past e))

-- where memory ran out at a head no prompt is open, so the request is ended next
spent_behind : (s : Setting) (m : Kept) → IsPast s m.past → prompt_open m.past m.past ≡ m.prompt → list_any is_end m.past ≡ false → is_short_in m.past ≡ true → (b : Bool) → (m.prompt == 0) ≡ b
    → is_short_in ((if b then Called CallEnd RequestEnded else Called (Lose m.prompt Memory) (Lost Memory)) ∷ m.past) ≡ true
spent_behind s m run prompt unended short true none = ended_behind m.past RequestEnded unended short
spent_behind s m run prompt unended short false some = at (why_short m.past short)
  where
    at : WhyShort m.past → is_short_in (Called (Lose m.prompt Memory) (Lost Memory) ∷ m.past) ≡ true
    at (faulted e) = fault_short (Called (Lose m.prompt Memory) (Lost Memory) ∷ m.past) e
    at (cut e) = absurd (false≢true (sym unended ∙ cut_end m.past e))
    at (headed e) = let zero_prompt : m.prompt ≡ 0 = sym prompt ∙ unled s m.past run e in absurd (false≢true (sym some ∙ ap (λ n. n == 0) zero_prompt))
    at (ended_headed e) = absurd (false≢true (sym unended ∙ ended_end m.past e))

short_replied : (s : Setting) (m : Kept) (reply : BookReply) → Ties s m → is_ending (way m.stage) ≡ true → is_short_in m.past ≡ true → is_short_in (past_replied m m.stage reply) ≡ true
short_replied s m reply t ends short = at m.stage t.stage t.ended ends
  where
    at : (st : Stage) → IsStage s m.past st → list_any is_end m.past ≡ is_after_end st → is_ending (way st) ≡ true → is_short_in (past_replied m st reply) ≡ true
    at (NextNonce x c) stands ended e = short
    at (NameLast x gift c) stands ended e = short
    at (RenewLast x gift terms c) stands ended e = fault_short (Called (Renew gift terms) reply ∷ m.past) (closes_fault s m.past c.outcome stands.0.closes short)
    at (Close c) stands ended e = fault_short (Called (call_at (Close c)) reply ∷ m.past) (closes_fault s m.past c.outcome stands.1 short)
    at (End outcome) stands ended e = short
    at Spent stands ended e = spent_behind s m stands.is_past t.prompt ended short (m.prompt == 0) refl
    at SpentEnd stands ended e = ended_behind m.past RequestEnded ended short
    at SpentOver stands ended e = short
    at Over stands ended e = short
    at _ stands ended e = absurd (false≢true e)

short_drawn : (m : Kept) (drawn : CountDrawn) → is_ending (way m.stage) ≡ true → is_short_in m.past ≡ true → is_short_in (past_drawn m m.stage drawn) ≡ true
short_drawn m drawn ends short = at m.stage ends
  where
    at : (st : Stage) → is_ending (way st) ≡ true → is_short_in (past_drawn m st drawn) ≡ true
    at (Draw x nonce) e = absurd (false≢true e)
    at _ e = short

short_given : (s : Setting) (m : Kept) (gave : Gave) → Ties s m → is_ending (way m.stage) ≡ true → is_short_in m.past ≡ true → is_short_in (past_given m gave) ≡ true
short_given s m (Reply reply) t ends short = short_replied s m reply t ends short
short_given s m (Drawn drawn) t ends short = short_drawn m drawn ends short
short_given s m _ t ends short = short

-- no link tells of what the caller gives
still_replied : (s : Setting) (m : Kept) (reply : BookReply) (st : Stage) → IsStillPast s m.past (past_replied m st reply)
still_replied s m reply Spent = at (m.prompt == 0)
  where
    at : (b : Bool) → IsStillPast s m.past ((if b then Called CallEnd RequestEnded else Called (Lose m.prompt Memory) (Lost Memory)) ∷ m.past)
    at true = still_past s (Called CallEnd RequestEnded) m.past (Called CallEnd RequestEnded ∷ m.past) refl refl
    at false = still_past s (Called (Lose m.prompt Memory) (Lost Memory)) m.past (Called (Lose m.prompt Memory) (Lost Memory) ∷ m.past) refl refl
still_replied s m reply SpentEnd = still_past s (Called CallEnd RequestEnded) m.past (Called CallEnd RequestEnded ∷ m.past) refl refl
still_replied s m reply st = at (is_heard st reply)
  where
    at : (b : Bool) → IsStillPast s m.past (if b then Called (call_at st) reply ∷ m.past else m.past)
    at true = still_past s (Called (call_at st) reply) m.past (Called (call_at st) reply ∷ m.past) refl refl
    at false = same_past s m.past m.past refl

still_drawn : (s : Setting) (m : Kept) (drawn : CountDrawn) (st : Stage) → IsStillPast s m.past (past_drawn m st drawn)
still_drawn s m drawn (Draw Proxy nonce) = still_past s (Drew Proxy nonce drawn.count drawn.epoch) m.past (Drew Proxy nonce drawn.count drawn.epoch ∷ m.past) refl refl
still_drawn s m drawn (Draw Server nonce) = still_past s (Drew Server nonce drawn.count drawn.epoch) m.past (Drew Server nonce drawn.count drawn.epoch ∷ m.past) refl refl
still_drawn s m drawn _ = same_past s m.past m.past refl

still_given : (s : Setting) (m : Kept) (gave : Gave) → IsStillPast s m.past (past_given m gave)
still_given s m (Reply reply) = still_replied s m reply m.stage
still_given s m (Drawn drawn) = still_drawn s m drawn m.stage
still_given s m _ = same_past s m.past m.past refl

-- what is given keeps what the dialer told
pub carried_given : (s : Setting) (streams : Option (LinkName → List ℕ)) (before : Option (List Traffic)) (m n : Kept) (gave : Gave) (more : List Traffic) → Ties s m
    → n.past ≡ past_given m gave → n.number ≡ m.number → n.links ≡ m.links → n.link ≡ m.link → (is_ending (way m.stage) ≡ true → is_ending (way n.stage) ≡ true)
    → IsCarried s streams before m more → IsCarried s streams before n more
carried_given s streams before m n gave more t same number links link ends c =
    carried_still s streams before m n more (subst (IsStillPast s m.past) (sym same) (still_given s m gave)) number (omega (arith, links)) (λ some. inr (links, ap is_some (sym link) ∙ some))
    (at (is_ending (way m.stage)) refl) c
  where
    at : (b : Bool) → is_ending (way m.stage) ≡ b → is_short_at b m.past ≡ true → is_short_at (is_ending (way n.stage)) n.past ≡ true
    at false e short = absurd (false≢true short)
    at true e short = ap (λ b. is_short_at b n.past) (ends e) ∙ ap (is_short_at true) same ∙ short_given s m gave t e short

-- THE OUTCOME

-- it stands last
ends_not_rests : (o : Outcome) → ¬ (Rests ≡ Ends o)
ends_not_rests o e = cc

reads_not_ends : (link : ℕ) (o : Outcome) → ¬ (Reads link ≡ Ends o)
reads_not_ends link o e = cc

-- where the outcome is wanted, it is short by a fault
ends_fault : (s : Setting) (past : List Event) (o : Outcome) → IsPast s past → want s past ≡ Ends o → is_short_in past ≡ true → list_any is_write_fault past ≡ true
ends_fault s past o run wants short = at (why_short past short)
  where
    not_headed : (xs : List Event) → want s xs ≡ Ends o → is_at_head xs ≡ true → ⊥
    not_headed (Headed link bytes ∷ xs) k e = reads_not_ends link o k
    not_headed _ k e = false≢true e

    not_ended : (xs : List Event) → IsPast s xs → is_ended_at_head xs ≡ true → ⊥
    not_ended (Called CallEnd reply ∷ Headed link bytes ∷ xs) k e = k.1
    not_ended (Called CallEnd reply ∷ _) k e = false≢true e
    not_ended _ k e = false≢true e

    not_cut : (xs : List Event) → want s xs ≡ Ends o → is_cut_at_head xs ≡ true → ⊥
    not_cut (Ended NoMemory ∷ Called CallEnd reply ∷ Headed link bytes ∷ xs) k e = ends_not_rests o k
    not_cut _ k e = false≢true e

    at : WhyShort past → list_any is_write_fault past ≡ true
    at (faulted e) = e
    at (cut e) = absurd (not_cut past wants e)
    at (headed e) = absurd (not_headed past wants e)
    at (ended_headed e) = absurd (not_ended past run e)

pub tells_finished : (request : Request) (m n : Kept) (o : Outcome) (streams : Option (LinkName → List ℕ)) (told : Option (List Traffic)) → m.stage ≡ End o → n.past ≡ Ended o ∷ m.past → IsTrue (goes_on (way m.stage) (way n.stage)) → line n ≡ line m
    → TellsTraffic request m n streams told told
tells_finished request m n o streams told was same goes kept = λ s before more by t grew c.
    let ends : is_ending (way n.stage) ≡ true = goes_ends (way m.stage) (way n.stage) goes (ap (λ st. is_ending (way st)) was) in (
      more,
      grew,
      carried_line s streams before m n more (still_past s (Ended o) m.past n.past same refl) kept (λ short.
          let stands : IsStage s m.past (End o) = subst (IsStage s m.past) was t.stage in
          let fault : list_any is_write_fault m.past ≡ true = ends_fault s m.past o stands.0 stands.1 (ap (λ st. is_short_at (is_ending (way st)) m.past) (sym was) ∙ short) in
          ap (λ b. is_short_at b n.past) ends ∙ ap is_short_in same ∙ fault_short (Ended o ∷ m.past) fault) c,
    )

-- memory had run out
cut_behind : (past : List Event) → is_at_head past ≡ false → is_cut_at_head past ≡ false → is_short_in past ≡ true → is_short_in (Ended NoMemory ∷ past) ≡ true
cut_behind past headless uncut short = at (why_short past short)
  where
    now_cut : (xs : List Event) → is_ended_at_head xs ≡ true → is_cut_at_head (Ended NoMemory ∷ xs) ≡ true
    now_cut (Called CallEnd reply ∷ Headed link bytes ∷ xs) e = refl
    now_cut (Called CallEnd reply ∷ _) e = absurd (false≢true e)
    now_cut _ e = absurd (false≢true e)

    by : (a b c d : Bool) → b ≡ true → ((a || b) || (c || d)) ≡ true
    by true b c d e = refl
    by false true c d e = refl
    by false false c d e = absurd (false≢true e)

    at : WhyShort past → is_short_in (Ended NoMemory ∷ past) ≡ true
    at (faulted e) = fault_short (Ended NoMemory ∷ past) e
    at (cut e) = absurd (false≢true (sym uncut ∙ e))
    at (headed e) = absurd (false≢true (sym headless ∙ e))
    at (ended_headed e) = by (list_any is_write_fault past) (is_cut_at_head (Ended NoMemory ∷ past)) false false (now_cut past e)

pub tells_spent_over : (request : Request) (m n : Kept) (streams : Option (LinkName → List ℕ)) (told : Option (List Traffic)) → m.stage ≡ SpentOver → n.past ≡ Ended NoMemory ∷ m.past → IsTrue (goes_on (way m.stage) (way n.stage)) → line n ≡ line m
    → TellsTraffic request m n streams told told
tells_spent_over request m n streams told was same goes kept = λ s before more by t grew c.
    let ends : is_ending (way n.stage) ≡ true = goes_ends (way m.stage) (way n.stage) goes (ap (λ st. is_ending (way st)) was) in (
      more,
      grew,
      carried_line s streams before m n more (still_past s (Ended NoMemory) m.past n.past same refl) kept (λ short.
          let stands : IsStage s m.past SpentOver = subst (IsStage s m.past) was t.stage in
          let short_so : is_short_in m.past ≡ true = ap (λ st. is_short_at (is_ending (way st)) m.past) (sym was) ∙ short in
          ap (λ b. is_short_at b n.past) ends ∙ ap is_short_in same ∙ cut_behind m.past (ap is_at_head stands.2) (ap is_cut_at_head stands.2) short_so) c,
    )

-- WHERE NOTHING FOLLOWS

is_over_short : (past : List Event) → is_over past ≡ true → is_short_in past ≡ true → is_short past ≡ true
is_over_short (Ended o ∷ past) over short = at (is_short (Ended o ∷ past)) short
  where
    at : (b : Bool) → (b || false) ≡ true → b ≡ true
    at true e = refl
    at false e = e
is_over_short _ over short = absurd (false≢true over)

over_past : (s : Setting) (past : List Event) → IsStage s past Over → is_over past ≡ true
over_past s past (inl run) = run.1
over_past s past (inr spent) = ap is_over spent.1.cut

-- that was written for the request
pub sent_over : (s : Setting) (m : Kept) (w : List Written) → m.stage ≡ Over → Ties s m → IsSentAt s (is_ending (way m.stage)) m.past w → IsSent s m.past w
sent_over s m w now t (inl all) = inl all
sent_over s m w now t (inr (short, part)) =
    inr (is_over_short m.past (over_past s m.past (subst (IsStage s m.past) now t.stage)) (ap (λ st. is_short_at (is_ending (way st)) m.past) (sym now) ∙ short), part)
