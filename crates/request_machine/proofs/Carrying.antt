-- What a dialer tells of a request, from turn to turn: turns in which it tells no more, dials and readings.
use Rattle.std.proofs.Common.{◌≡◌, ◌⊎◌, inl, inr, ℕ, ◌+◌, ◌==◌, ◌<◌, ◌≤◌, Bool, true, false, IsTrue, List, [], ◌∷◌, ◌++◌, Some, None, IfSome, is_some, refl, sym, ap, ◌∙◌, subst, arith}
use Rattle.std.specs.declared.option.Option.{Option}
use Rattle.std.proofs.lemmas.Bool.{false≢true}
use Rattle.std.proofs.lemmas.Grind.{common_steps, flat_map-append}
use Rattle.std.proofs.lemmas.List.{append-nil}
use Rattle.std.proofs.lemmas.List.Elements.{filter_map-append}
use Rattle.std.specs.List.{list_any, list_all}
use Rattle.spaces.specs.declared.roster.Method.{Method}
use Rattle.spaces.specs.declared.roster.Request.{Request}
use Rattle.link_trait.specs.Told.{grown}
use Rattle.link_trait.specs.Links.{Stream, same_link, heard_in, heard_on, read_on, IsKnownWith}
use Rattle.link_trait.specs.declared.links.LinkName.{LinkName}
use Rattle.link_trait.specs.declared.dialer.Traffic.{Traffic}
use Rattle.auth_runs.specs.declared.event.Event.{Event}
use Rattle.auth_runs.specs.declared.event.Event.TheVariants.{Dialed, DialFailed, Headed, Replied, Broken, LinkLost, AskedFor, Stepped}
use Rattle.connection_binding.specs.declared.ends.ReadEnd.{ReadEnd}
use Rattle.connection_binding.specs.Readings.{is_read_of, IsReplyRead}
use Rattle.trace_rule.specs.Settings.{Setting}
use Rattle.trace_rule.specs.Telling.{Written, sends}
use Rattle.trace_rule.specs.Heard.{ended, IsHeard}
use Rattle.request_machine.specs.declared.stage.Prompt.{Prompt}
use Rattle.request_machine.specs.declared.stage.Stage.TheVariants.{Go, Ask, Read}
use Rattle.request_machine.specs.Kept.{Kept, Ties}
use Rattle.request_machine.specs.Asking.{IsAskedIn}
use Rattle.request_machine.specs.Linked.{Way, way, goes_on, is_ending, Line, line, IsLinkedOn, IsLinked, nth_link, IsOnlyLink}
use Rattle.request_machine.specs.Linked.Way.{Onward, Asking, Reading, Ending}
use Rattle.request_machine.specs.Carried.{written, sent, is_short_at, IsSentAt, is_heard_on, IsUntouched, AreUntouched, IsSilent, IsRecorded, IsCarried, ReadsInto, TellsTraffic}
use Rattle.request_machine.specs.Provided.{IsStepMore}
use Rattle.request_machine.proofs.Dialing.{grown_more}
use Rattle.request_machine.proofs.Hearing.{heard_alike, sent_reads, read_silent, read_quiet, reads_other, IsShownBy, shown_read, shown_sent, heard_into, sends_read, unheard_read}

-- AN EVENT OF WHICH NO LINK TELLS

abbrev pub is_still : Event → Bool
is_still (Headed link bytes) = false
is_still (Replied link reply) = false
is_still (Broken link fault) = false
is_still (LinkLost link) = false
is_still event = true

-- a past says nothing more of links
pub record IsStillPast (s : Setting) (before now : List Event) : Type 0 where
  pub sends : sends s now ≡ sends s before
  pub heard : (streams : LinkName → Stream) (method : Method) (r : ℕ) → IsHeard streams method r before → IsHeard streams method r now
  pub unheard : (k : ℕ) → list_any (is_heard_on k) now ≡ list_any (is_heard_on k) before

pub same_past : (s : Setting) (before now : List Event) → now ≡ before → IsStillPast s before now
same_past s before now same = record {
  sends = ap (sends s) same;
  heard = λ streams method r h. subst (IsHeard streams method r) (sym same) h;
  unheard = λ k. ap (list_any (is_heard_on k)) same;
}

still_sends : (s : Setting) (e : Event) (past : List Event) → is_still e ≡ true → sends s (e ∷ past) ≡ sends s past
still_sends s (Headed link bytes) past still = absurd (false≢true still)
still_sends s (Replied link reply) past still = absurd (false≢true still)
still_sends s (Broken link fault) past still = absurd (false≢true still)
still_sends s (LinkLost link) past still = absurd (false≢true still)
still_sends s _ past still = refl

still_heard : (streams : LinkName → Stream) (method : Method) (r : ℕ) (e : Event) (past : List Event) → is_still e ≡ true → IsHeard streams method r past → IsHeard streams method r (e ∷ past)
still_heard streams method r (Headed link bytes) past still h = absurd (false≢true still)
still_heard streams method r (Replied link reply) past still h = absurd (false≢true still)
still_heard streams method r (Broken link fault) past still h = absurd (false≢true still)
still_heard streams method r (LinkLost link) past still h = absurd (false≢true still)
still_heard streams method r _ past still h = (h, tt)

still_unheard : (k : ℕ) (e : Event) (past : List Event) → is_still e ≡ true → list_any (is_heard_on k) (e ∷ past) ≡ list_any (is_heard_on k) past
still_unheard k (Headed link bytes) past still = refl
still_unheard k (Replied link reply) past still = absurd (false≢true still)
still_unheard k (Broken link fault) past still = absurd (false≢true still)
still_unheard k (LinkLost link) past still = absurd (false≢true still)
still_unheard k _ past still = refl

pub still_past : (s : Setting) (e : Event) (before now : List Event) → now ≡ e ∷ before → is_still e ≡ true → IsStillPast s before now
still_past s e before now same still = record {
  sends = ap (sends s) same ∙ still_sends s e before still;
  heard = λ streams method r h. subst (IsHeard streams method r) (sym same) (still_heard streams method r e before still h);
  unheard = λ k. ap (list_any (is_heard_on k)) same ∙ still_unheard k e before still;
}

stepped_past : (s : Setting) (before now : List Event) → IsStepMore before now → IsStillPast s before now
stepped_past s before now (inl none) = same_past s before now none
stepped_past s before now (inr one) = still_past s (Stepped one.0 one.1) before now one.2 refl

-- what is heard of any streams is heard of recorded ones
pub recorded_so : (method : Method) (r : ℕ) (before now : List Event) → ((streams : LinkName → Stream) → IsHeard streams method r before → IsHeard streams method r now)
    → (streams : Option (LinkName → List ℕ)) → IsRecorded streams method r before → IsRecorded streams method r now
recorded_so method r before now heard None h = tt
recorded_so method r before now heard (Some streams) h = heard (λ name. ended (streams name)) h

-- LINKS THAT ARE UNTOUCHED

-- a link that is untouched now was so before
abbrev pub WasFresh : Kept → ℕ → Type 0
WasFresh m k = (m.links < k) ⊎ (k ≡ m.links) × (is_some m.link ≡ true)

untouched_at : (m : Kept) (more : List Traffic) (k : ℕ) → AreUntouched m more → WasFresh m k → IsUntouched m more k
untouched_at m more k all (inl later) = all.later k later
untouched_at m more k all (inr (same, some)) = subst (IsUntouched m more) (sym same) (all.last some)

untouched_kept : (m n : Kept) (more : List Traffic) → n.number ≡ m.number → ((k : ℕ) → list_any (is_heard_on k) n.past ≡ list_any (is_heard_on k) m.past) → m.links ≤ n.links
    → (is_some n.link ≡ true → WasFresh m n.links) → AreUntouched m more → AreUntouched n more
untouched_kept m n more number same more_links fresh all = record {
  later = λ k later. by k (all.later k (omega (arith, more_links, later)));
  last = λ some. by n.links (untouched_at m more n.links all (fresh some));
}
  where
    by : (k : ℕ) → IsUntouched m more k → IsUntouched n more k
    by k it = record { unheard = same k ∙ it.unheard; unread = ap (λ r. read_on (record { request = r; nth = k }) more) number ∙ it.unread }

-- what a machine's line says of them
line_fresh : (m n : Kept) → line n ≡ line m → is_some n.link ≡ true → WasFresh m n.links
line_fresh m n same some = inr (ap (λ (l : Line). l.links) same, ap (λ (l : Line). is_some l.link) (sym same) ∙ some)

line_links : (m n : Kept) → line n ≡ line m → m.links ≤ n.links
line_links m n same = let e : n.links ≡ m.links = ap (λ (l : Line). l.links) same in omega (arith, e)

-- A TURN IN WHICH THE DIALER TELLS NO MORE

pub sent_as : (s : Setting) (before now : Bool) (first after : List Event) (w : List Written) → sends s after ≡ sends s first → (is_short_at before first ≡ true → is_short_at now after ≡ true)
    → IsSentAt s before first w → IsSentAt s now after w
sent_as s before now first after w same short (inl all) = inl (all ∙ sym same)
sent_as s before now first after w same short (inr (was, part)) = inr (short was, rw same part)

module _ (s : Setting) (streams : Option (LinkName → List ℕ)) (before : Option (List Traffic)) (m n : Kept) (more : List Traffic) where
  abbrev pub StaysShort : Type 0
  StaysShort = is_short_at (is_ending (way m.stage)) m.past ≡ true → is_short_at (is_ending (way n.stage)) n.past ≡ true

  pub carried_still : IsStillPast s m.past n.past → n.number ≡ m.number → m.links ≤ n.links → (is_some n.link ≡ true → WasFresh m n.links) → StaysShort
      → IsCarried s streams before m more → IsCarried s streams before n more
  carried_still still number links fresh short c = record {
    sent = sent_as s (is_ending (way m.stage)) (is_ending (way n.stage)) m.past n.past (sent more) still.sends short c.sent;
    heard = still.heard (λ name. read_on name more) s.request.method s.number c.heard;
    recorded = λ silent. recorded_so s.request.method s.number m.past n.past (λ shown. still.heard shown s.request.method s.number) streams (c.recorded silent);
    untouched = untouched_kept m n more number still.unheard links fresh c.untouched;
  }

  pub carried_line : IsStillPast s m.past n.past → line n ≡ line m → StaysShort → IsCarried s streams before m more → IsCarried s streams before n more
  carried_line still kept short c = carried_still still (ap (λ (l : Line). l.number) kept) (line_links m n kept) (line_fresh m n kept) short c

-- a link that is still open was closed
pub carried_settled : (s : Setting) (streams : Option (LinkName → List ℕ)) (before : Option (List Traffic)) (m : Kept) (more : List Traffic) → IsCarried s streams before m more → IsCarried s streams before (record m { link = None }) more
carried_settled s streams before m more c = record {
  sent = c.sent;
  heard = c.heard;
  recorded = c.recorded;
  untouched = record { later = λ k later. record { unheard = (c.untouched.later k later).unheard; unread = (c.untouched.later k later).unread }; last = λ some. absurd (false≢true some) };
}

-- before a request comes to its end nothing is short
pub never_short : (ending now : Bool) (first after : List Event) → ending ≡ false → is_short_at ending first ≡ true → is_short_at now after ≡ true
never_short ending now first after onward short = absurd (false≢true (ap (λ b. is_short_at b first) (sym onward) ∙ short))

-- what goes on stays at the end
pub goes_ends : (a b : Way) → IsTrue (goes_on a b) → is_ending a ≡ true → is_ending b ≡ true
goes_ends Ending Ending goes ends = refl
goes_ends Ending Onward goes ends = absurd (false≢true goes)
goes_ends Ending Asking goes ends = absurd (false≢true goes)
goes_ends Ending (Reading link) goes ends = absurd (false≢true goes)
goes_ends Onward b goes ends = absurd (false≢true ends)
goes_ends Asking b goes ends = absurd (false≢true ends)
goes_ends (Reading link) b goes ends = absurd (false≢true ends)

-- what is short stays so
pub short_stays : (a b : Bool) (first after : List Event) → (a ≡ true → b ≡ true) → after ≡ first → is_short_at a first ≡ true → is_short_at b after ≡ true
short_stays false b first after ends same short = absurd (false≢true short)
short_stays true b first after ends same short = ap (λ c. is_short_at c after) (ends refl) ∙ ap (is_short_at true) same ∙ short

pub tells_same : (request : Request) (m n : Kept) (streams : Option (LinkName → List ℕ)) (old new : Option (List Traffic)) → n.past ≡ m.past → line n ≡ line m → IsTrue (goes_on (way m.stage) (way n.stage)) → new ≡ old
    → TellsTraffic request m n streams old new
tells_same request m n streams old new same kept goes untold = λ s before more by t grew c. (
  more,
  untold ∙ grew,
  carried_line s streams before m n more (same_past s m.past n.past same) kept
      (short_stays (is_ending (way m.stage)) (is_ending (way n.stage)) m.past n.past (goes_ends (way m.stage) (way n.stage) goes) same) c,
)

-- what is asked for next
pub carried_need : (s : Setting) (streams : Option (LinkName → List ℕ)) (before : Option (List Traffic)) (m n : Kept) (more : List Traffic) → n.past ≡ m.past → line n ≡ line m → IsTrue (goes_on (way m.stage) (way n.stage))
    → IsCarried s streams before m more → IsCarried s streams before n more
carried_need s streams before m n more same kept goes c =
    carried_line s streams before m n more (same_past s m.past n.past same) kept
    (short_stays (is_ending (way m.stage)) (is_ending (way n.stage)) m.past n.past (goes_ends (way m.stage) (way n.stage) goes) same) c

-- two turns
pub tells_then : (request : Request) (m n k : Kept) (streams : Option (LinkName → List ℕ)) (a b c : Option (List Traffic)) → ((s : Setting) → s.request ≡ request → Ties s m → Ties s n)
    → TellsTraffic request m n streams a b → TellsTraffic request n k streams b c → TellsTraffic request m k streams a c
tells_then request m n k streams a b d ties first second = λ s before more by t grew c.
    let x = first s before more by t grew c in
    second s before x.0 by (ties s by t) x.1 x.2

-- nothing was told of a request that has not begun
pub first_carried : (s : Setting) (streams : Option (LinkName → List ℕ)) (before : Option (List Traffic)) (m : Kept) → m.past ≡ [] → IsCarried s streams before m []
first_carried s streams before m none = record {
  sent = inl (ap (sends s) (sym none));
  heard = subst (IsHeard (λ name. read_on name []) s.request.method s.number) (sym none) tt;
  recorded = λ silent. subst (IsRecorded streams s.request.method s.number) (sym none) (at streams);
  untouched = record { later = λ k later. untouched k; last = λ some. untouched m.links };
}
  where
    untouched : (k : ℕ) → IsUntouched m [] k
    untouched k = record { unheard = ap (list_any (is_heard_on k)) none; unread = refl }

    at : (o : Option (LinkName → List ℕ)) → IsRecorded o s.request.method s.number []
    at None = tt
    at (Some x) = tt

-- A DIAL

pub tells_dialed : (request : Request) (m k n : Kept) (link : LinkName) (streams : Option (LinkName → List ℕ)) (old new : Option (List Traffic)) → m.stage ≡ Go → k ≡ record m { link = Some link } → n.past ≡ Dialed (k.links + 1) ∷ k.past
    → line n ≡ record (line k) { links = k.links + 1; is_dialed = true } → new ≡ old → TellsTraffic request m n streams old new
tells_dialed request m k n link streams old new was kept same lined untold = λ s before more by t grew c.
    let links : n.links ≡ m.links + 1 = ap (λ (l : Line). l.links) lined ∙ ap (λ (v : Kept). v.links + 1) kept in (
      more,
      untold ∙ grew,
      carried_still s streams before m n more (still_past s (Dialed (m.links + 1)) m.past n.past (same ∙ ap (λ (v : Kept). Dialed (v.links + 1) ∷ v.past) kept) refl)
          (ap (λ (l : Line). l.number) lined ∙ ap (λ (v : Kept). v.number) kept) (omega (arith, links)) (λ some. inl (omega (arith, links)))
          (never_short (is_ending (way m.stage)) (is_ending (way n.stage)) m.past n.past (ap (λ st. is_ending (way st)) was)) c,
    )

pub tells_dial_failed : (request : Request) (m n : Kept) (count : ℕ) (streams : Option (LinkName → List ℕ)) (old new : Option (List Traffic)) → m.stage ≡ Go → n.past ≡ DialFailed (m.links + 1) count ∷ m.past → line n ≡ line m → new ≡ old
    → TellsTraffic request m n streams old new
tells_dial_failed request m n count streams old new was same kept untold = λ s before more by t grew c. (
  more,
  untold ∙ grew,
  carried_line s streams before m n more (still_past s (DialFailed (m.links + 1) count) m.past n.past same refl) kept
      (never_short (is_ending (way m.stage)) (is_ending (way n.stage)) m.past n.past (ap (λ st. is_ending (way st)) was)) c,
)

-- a step of the provider, or nothing
pub tells_stepped : (request : Request) (m n : Kept) (streams : Option (LinkName → List ℕ)) (told : Option (List Traffic)) → is_ending (way m.stage) ≡ false → IsStepMore m.past n.past → line n ≡ line m → TellsTraffic request m n streams told told
tells_stepped request m n streams told was same kept = λ s before more by t grew c. (
  more,
  grew,
  carried_line s streams before m n more (stepped_past s m.past n.past same) kept
      (never_short (is_ending (way m.stage)) (is_ending (way n.stage)) m.past n.past was) c,
)

-- the user was asked
pub tells_asked : (request : Request) (m n : Kept) (p : Prompt) (ordinal number : ℕ) (streams : Option (LinkName → List ℕ)) (told : Option (List Traffic)) → m.stage ≡ Ask p ordinal → IsAskedIn number m.past n.past
    → line n ≡ record (line m) { space = None; given = n.given } → TellsTraffic request m n streams told told
tells_asked request m n p ordinal number streams told was asked lined = λ s before more by t grew c. (
  more,
  grew,
  carried_still s streams before m n more (still_past s (AskedFor number asked.0) m.past n.past asked.1 refl) (ap (λ (l : Line). l.number) lined)
      (let e : n.links ≡ m.links = ap (λ (l : Line). l.links) lined in omega (arith, e))
      (λ some. inr (ap (λ (l : Line). l.links) lined, ap (λ (l : Line). is_some l.link) (sym lined) ∙ some))
      (never_short (is_ending (way m.stage)) (is_ending (way n.stage)) m.past n.past (ap (λ st. is_ending (way st)) was)) c,
)

-- A READING

-- on the way to a head, and before its reply, all that was written is there
pub exact_at : (s : Setting) (ending : Bool) (past : List Event) (w : List Written) → ending ≡ false → IsSentAt s ending past w → w ≡ sends s past
exact_at s ending past w onward (inl all) = all
exact_at s ending past w onward (inr (is, part)) = absurd (false≢true (ap (λ b. is_short_at b past) (sym onward) ∙ is))

same_nth : (r a b : ℕ) → same_link (record { request = r; nth = a }) (record { request = r; nth = b }) ≡ (a == b)
same_nth r a b = grind (arith, common_steps)

before_not : (a b : ℕ) → a < b → (a == b) ≡ false
before_not a b less = grind (arith, less)

turned : (a b : ℕ) → (a == b) ≡ false → (b == a) ≡ false
turned a b other = grind (arith, other)

-- the whole stream of a link of which nothing was read shows what is read of it
recorded_read : (streams : Option (LinkName → List ℕ)) (before : Option (List Traffic)) (more : List Traffic) (method : Method) (r link : ℕ) (past now : List Event) (end : ReadEnd) (old new : Option (List Traffic))
    → list_any (is_heard_on link) past ≡ false → heard_on (record { request = r; nth = link }) more ≡ [] → old ≡ grown before more → IsKnownWith streams old
    → IsReplyRead (record { request = r; nth = link }) method streams old new end → ReadsInto link end past now → IsSilent r before → IsRecorded streams method r past → IsRecorded streams method r now
recorded_read None before more method r link past now end old new unheard unread told known read into silent h = tt
recorded_read (Some streams) None more method r link past now end old new unheard unread told known read into silent h = absurd (subst (IsKnownWith (Some streams)) told known)
recorded_read (Some streams) (Some first) more method r link past now end old new unheard unread told known read into silent h =
    let none : heard_on (record { request = r; nth = link }) (first ++ more) ≡ [] =
    flat_map-append (heard_in (record { request = r; nth = link })) first more ∙ ap (λ xs. xs ++ heard_on (record { request = r; nth = link }) more) (silent link) ∙ unread in
    heard_into (λ name. ended (streams name)) method r link past unheard end now
    (shown_sent (record { request = r; nth = link }) method streams (first ++ more) new end none (subst (λ o. IsReplyRead (record { request = r; nth = link }) method (Some streams) o new end) told read)) into h

-- what a reading says of its link, and of no other
module _ (s : Setting) (streams : Option (LinkName → List ℕ)) (before : Option (List Traffic)) (m n : Kept) (end : ReadEnd) (more : List Traffic) (c : IsCarried s streams before m more)
    (reading : is_ending (way m.stage) ≡ false) (some : is_some m.link ≡ true) (number : s.number ≡ m.number) (into : ReadsInto m.links end m.past n.past) (closed : line n ≡ record (line m) { link = None }) where
  abbrev its_name : LinkName
  its_name = nth_link (line m) m.links

  unheard_last : list_any (is_heard_on m.links) m.past ≡ false
  unheard_last = (c.untouched.last some).unheard

  other_streams : (pieces : List Traffic) → list_all (is_read_of its_name) pieces ≡ true → (k : ℕ) → (m.links == k) ≡ false → read_on (nth_link (line m) k) (more ++ pieces) ≡ read_on (nth_link (line m) k) more
  other_streams pieces reads k other = read_quiet (nth_link (line m) k) more pieces (reads_other (nth_link (line m) k) its_name pieces (same_nth m.number m.links k ∙ other) reads)

  read_heard : (method : Method) (pieces : List Traffic) → list_all (is_read_of its_name) pieces ≡ true → IsShownBy method (read_on its_name pieces) end → IsHeard (λ name. read_on name more) method m.number m.past
      → IsHeard (λ name. read_on name (more ++ pieces)) method m.number n.past
  read_heard method pieces reads shows h =
      let whole : read_on its_name (more ++ pieces) ≡ read_on its_name pieces = read_silent its_name more pieces (c.untouched.last some).unread in
      heard_into (λ name. read_on name (more ++ pieces)) method m.number m.links m.past unheard_last end n.past (subst (λ st. IsShownBy method st end) (sym whole) shows) into
      (heard_alike (λ name. read_on name more) (λ name. read_on name (more ++ pieces)) method m.number m.links m.past unheard_last (λ k other. sym (other_streams pieces reads k (turned k m.links other))) h)

  read_untouched : (pieces : List Traffic) → list_all (is_read_of its_name) pieces ≡ true → AreUntouched n (more ++ pieces)
  read_untouched pieces reads = record {
    later = λ k later. by k (subst (λ (l : Line). l.links < k) closed later);
    last = λ opened. absurd (false≢true (sym (ap (λ (l : Line). is_some l.link) closed) ∙ opened));
  }
    where
      by : (k : ℕ) → m.links < k → IsUntouched n (more ++ pieces) k
      by k later = record {
        unheard = unheard_read m.links k end m.past n.past (before_not m.links k later) into ∙ (c.untouched.later k later).unheard;
        unread = ap (λ r. read_on (record { request = r; nth = k }) (more ++ pieces)) (ap (λ (l : Line). l.number) closed)
            ∙ other_streams pieces reads k (before_not m.links k later) ∙ (c.untouched.later k later).unread;
      }

  pub carried_read : (old new : Option (List Traffic)) → old ≡ grown before more → IsKnownWith streams old → IsReplyRead its_name s.request.method streams old new end
      → (further : List Traffic) × (new ≡ grown before further) × IsCarried s streams before n further
  carried_read old new told known read =
      let pieces : List Traffic = read.front ++ read.last in
      let unread : heard_on its_name more ≡ [] = ap (λ (st : Stream). st.bytes) (c.untouched.last some).unread in (
        more ++ pieces,
        read.grew ∙ ap (λ o. grown o pieces) told ∙ grown_more before more pieces,
        record {
          sent = inl (filter_map-append written more pieces ∙ ap (λ xs. sent more ++ xs) (sent_reads its_name pieces read.of_link) ∙ append-nil (sent more)
              ∙ exact_at s (is_ending (way m.stage)) m.past (sent more) reading c.sent ∙ sym (sends_read s m.links end m.past n.past into));
          heard = subst (λ r. IsHeard (λ name. read_on name (more ++ pieces)) s.request.method r n.past) (sym number)
              (read_heard s.request.method pieces read.of_link (shown_read its_name s.request.method streams old new end read) (subst (λ r. IsHeard (λ name. read_on name more) s.request.method r m.past) number c.heard));
          recorded = λ silent. subst (λ r. IsRecorded streams s.request.method r n.past) (sym number)
              (recorded_read streams before more s.request.method m.number m.links m.past n.past end old new unheard_last unread told known read into (subst (λ r. IsSilent r before) number silent)
              (subst (λ r. IsRecorded streams s.request.method r m.past) number (c.recorded silent)));
          untouched = read_untouched pieces read.of_link;
        },
      )

-- of a link that is the machine's
pub if_link : (P : LinkName → Type 0) (m : Kept) (opened : List LinkName) → IsOnlyLink (line m) opened → is_some m.link ≡ true → IfSome m.link P → P (nth_link (line m) m.links)
if_link P m opened only some is = at m.link only.last some is
  where
    at : (o : Option LinkName) → IfSome o (λ link. link ≡ nth_link (line m) m.links) → is_some o ≡ true → IfSome o P → P (nth_link (line m) m.links)
    at None last e p = absurd (false≢true e)
    at (Some link) last e p = subst P last p

-- a reading, and the link's close behind it
pub tells_reading : (request : Request) (m same k n : Kept) (link : ℕ) (streams : Option (LinkName → List ℕ)) (old between new : Option (List Traffic)) (opened : List LinkName) (end : ReadEnd) → m.stage ≡ Read link → same ≡ m
    → k ≡ record same { link = None } → line n ≡ line k → IfSome m.link (λ name. IsReplyRead name request.method streams old between end) → IsKnownWith streams old → new ≡ between → ReadsInto link end k.past n.past
    → IsLinked m → IsOnlyLink (line m) opened → TellsTraffic request m n streams old new
tells_reading request m same k n link streams old between new opened end was unchanged closed lined read known untold into linked only = λ s before more by t grew c.
    let on : IsLinkedOn (Reading link) (line m) = subst (λ w. IsLinkedOn w (line m)) (ap way was) linked in
    let kept : k ≡ record m { link = None } = closed ∙ ap (λ (v : Kept). record v { link = None }) unchanged in
    let its : IsReplyRead (nth_link (line m) m.links) s.request.method streams old between end =
    subst (λ (r : Request). IsReplyRead (nth_link (line m) m.links) r.method streams old between end) (sym by) (if_link (λ name. IsReplyRead name request.method streams old between end) m opened only on.0 read) in
    let it : (further : List Traffic) × (between ≡ grown before further) × IsCarried s streams before n further =
    carried_read s streams before m n end more c (ap (λ st. is_ending (way st)) was) on.0 t.same_number
    (subst (λ l. ReadsInto l end m.past n.past) on.3 (subst (λ (v : Kept). ReadsInto link end v.past n.past) kept into)) (lined ∙ ap line kept) old between grew known its in
    (it.0, untold ∙ it.1, it.2)
