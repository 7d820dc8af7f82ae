-- What was heard of a request's links: what their streams show behind each head.
use Rattle.std.proofs.Common.{◌≡◌, inl, inr, ℕ, ◌==◌, Bool, true, false, ◌&&◌, ◌||◌, IsTrue, List, [], ◌∷◌, ◌++◌, Option, Some, Ok, Err, refl, sym, ap, ◌∙◌, subst, arith, if◌then◌else◌}
use Rattle.std.proofs.lemmas.Bool.{false≢true}
use Rattle.std.proofs.lemmas.Grind.{common_steps, flat_map-append}
use Rattle.std.proofs.lemmas.List.{append-nil}
use Rattle.std.proofs.lemmas.List.Folds.{list_any-append}
use Rattle.std.specs.List.{list_any, list_all}
use Rattle.spaces.specs.declared.roster.Method.{Method}
use Rattle.link_trait.specs.Links.{Stream, same_link, heard_in, heard_on, is_end_of, has_ended, read_on}
use Rattle.link_trait.specs.declared.links.LinkName.{LinkName}
use Rattle.link_trait.specs.declared.dialer.Traffic.{Traffic}
use Rattle.link_trait.specs.declared.dialer.Traffic.TheVariants.{Sent, Received, Ended as LinkEnded}
use Rattle.wire_head.specs.Replies.{reply}
use Rattle.wire_head.specs.declared.reply.Reply.{Reply}
use Rattle.wire_head.specs.declared.reply.WireFault.{WireFault}
use Rattle.auth_runs.specs.declared.event.Event.{Event}
use Rattle.auth_runs.specs.declared.event.Event.TheVariants.{Headed, Replied, Broken, LinkLost}
use Rattle.connection_binding.specs.declared.ends.ReadEnd.{ReadEnd}
use Rattle.connection_binding.specs.declared.ends.ReadEnd.TheVariants.{Whole, Broken as BrokenEnd, Lost, Failed, NoMemory}
use Rattle.connection_binding.specs.Readings.{is_read_of, IsReplyRead}
use Rattle.connection_binding.proofs.NewLinks.{reply_sent, fault_sent}
use Rattle.trace_rule.specs.Settings.{Setting}
use Rattle.trace_rule.specs.Telling.{sends}
use Rattle.trace_rule.specs.Heard.{ended, reply_shown, fault_shown, reply_in, fault_in, rest, behind_reply, is_at_end, Hears, IsHeard}
use Rattle.trace_rule.specs.Holding.{has_reply}
use Rattle.request_machine.specs.Carried.{sent, is_heard_on, silence, ReadsInto}

-- BOOLS

pub either_false : (x y : Bool) → (x || y) ≡ false → (x ≡ false) × (y ≡ false)
either_false true y e = absurd (false≢true (sym e))
either_false false y e = (refl, e)

pub both_true : (a b : Bool) → (a && b) ≡ true → (a ≡ true) × (b ≡ true)
both_true true b e = (refl, e)
both_true false b e = absurd (false≢true e)

-- STREAMS THAT ARE THE SAME

module _ (a b : LinkName → Stream) (method : Method) (r : ℕ) (differs : ℕ → Bool) (same : (n : ℕ) → differs n ≡ false → a (record { request = r; nth = n }) ≡ b (record { request = r; nth = n })) where
  rest_alike : (on : ℕ) (xs : List Event) → differs on ≡ false → rest a method r on xs ≡ rest b method r on xs
  rest_alike on [] other = same on other
  rest_alike on (Replied x reply ∷ xs) other = ap (λ (st : Stream). if x == on then behind_reply method st else st) (rest_alike on xs other)
  rest_alike on (_ ∷ xs) other = rest_alike on xs other

  lost_alike : (on : ℕ) (xs : List Event) → differs on ≡ false → Hears a method r (LinkLost on) xs → Hears b method r (LinkLost on) xs
  lost_alike on (Headed x bytes ∷ xs) other k = subst (λ st. IsTrue (has_reply on xs && is_at_end st)) (rest_alike on xs other) k
  lost_alike on _ other k = tt

  -- the event is of a link whose streams may differ
  abbrev is_apart : Event → Bool
  is_apart (Replied on reply) = differs on
  is_apart (Broken on fault) = differs on
  is_apart (LinkLost on) = differs on
  is_apart _ = false

  hears_alike : (x : Event) (past : List Event) → is_apart x ≡ false → Hears a method r x past → Hears b method r x past
  hears_alike (Replied on reply) past other h = ap (reply_in method) (sym (rest_alike on past other)) ∙ h
  hears_alike (Broken on fault) past other h = (ap (λ st. has_reply on past && is_at_end st) (sym (rest_alike on past other)) ∙ h.0, ap (fault_in method) (sym (rest_alike on past other)) ∙ h.1)
  hears_alike (LinkLost on) past other h = lost_alike on past other h
  hears_alike _ past other h = tt

-- what was heard is so of all streams that are the same, but for a link that no event tells of
pub heard_alike : (a b : LinkName → Stream) (method : Method) (r link : ℕ) (past : List Event) → list_any (is_heard_on link) past ≡ false
    → ((n : ℕ) → (n == link) ≡ false → a (record { request = r; nth = n }) ≡ b (record { request = r; nth = n })) → IsHeard a method r past → IsHeard b method r past
heard_alike a b method r link [] unheard same h = tt
heard_alike a b method r link (e ∷ past) unheard same h =
    let parts = either_false (is_heard_on link e) (list_any (is_heard_on link) past) unheard in
    (heard_alike a b method r link past parts.1 same h.0, hears_alike a b method r (λ n. n == link) same e past (apart e parts.0) h.1)
  where
    apart : (x : Event) → is_heard_on link x ≡ false → is_apart a b method r (λ n. n == link) same x ≡ false
    apart (Replied on reply) k = k
    apart (Broken on fault) k = k
    apart (LinkLost on) k = k
    apart _ k = refl

-- and so of all streams that are the same
pub heard_same : (a b : LinkName → Stream) (method : Method) (r : ℕ) (past : List Event) → ((x : LinkName) → a x ≡ b x) → IsHeard a method r past → IsHeard b method r past
heard_same a b method r [] same h = tt
heard_same a b method r (e ∷ past) same h = (heard_same a b method r past same h.0, hears_alike a b method r (λ n. false) (λ n k. same (record { request = r; nth = n })) e past (apart e) h.1)
  where
    apart : (x : Event) → is_apart a b method r (λ n. false) (λ n k. same (record { request = r; nth = n })) x ≡ false
    apart (Replied on reply) = refl
    apart (Broken on fault) = refl
    apart (LinkLost on) = refl
    apart _ = refl

-- WHAT WAS READ OF A LINK

-- nothing is written where a link is read
pub sent_reads : (link : LinkName) (xs : List Traffic) → list_all (is_read_of link) xs ≡ true → sent xs ≡ []
sent_reads link [] reads = refl
sent_reads link (Sent on bytes ∷ xs) reads = absurd (false≢true reads)
sent_reads link (Received on bytes ∷ xs) reads = sent_reads link xs (both_true (same_link on link) (list_all (is_read_of link) xs) reads).1
sent_reads link (LinkEnded on ∷ xs) reads = sent_reads link xs (both_true (same_link on link) (list_all (is_read_of link) xs) reads).1

read_append : (x : LinkName) (a b : List Traffic) → read_on x (a ++ b) ≡ record { bytes = heard_on x a ++ heard_on x b; ended = has_ended x a || has_ended x b }
read_append x a b =
    ap (λ bytes. record { bytes = bytes; ended = has_ended x (a ++ b) }) (flat_map-append (heard_in x) a b)
    ∙ ap (λ e. record { bytes = heard_on x a ++ heard_on x b; ended = e }) (list_any-append (is_end_of x) a b)

-- what is behind a silence is all
pub read_silent : (x : LinkName) (a b : List Traffic) → read_on x a ≡ silence → read_on x (a ++ b) ≡ read_on x b
read_silent x a b quiet =
    read_append x a b
    ∙ ap (λ (st : Stream). record { bytes = st.bytes ++ heard_on x b; ended = st.ended || has_ended x b }) quiet

-- and so is what is before one
pub read_quiet : (x : LinkName) (a b : List Traffic) → read_on x b ≡ silence → read_on x (a ++ b) ≡ read_on x a
read_quiet x a b quiet =
    read_append x a b
    ∙ ap (λ (st : Stream). record { bytes = heard_on x a ++ st.bytes; ended = has_ended x a || st.ended }) quiet
    ∙ ap (λ bytes. record { bytes = bytes; ended = has_ended x a || false }) (append-nil (heard_on x a))
    ∙ ap (λ e. record { bytes = heard_on x a; ended = e }) (at (has_ended x a))
  where
    at : (e : Bool) → (e || false) ≡ e
    at true = refl
    at false = refl

-- of another link nothing is read
not_it : (x link y : LinkName) → same_link link x ≡ false → same_link y link ≡ true → same_link y x ≡ false
not_it x link y other same = ap (λ z. same_link z x) (let e : y ≡ link = grind (arith, common_steps, same) in e) ∙ other

pub reads_other : (x link : LinkName) (xs : List Traffic) → same_link link x ≡ false → list_all (is_read_of link) xs ≡ true → read_on x xs ≡ silence
reads_other x link [] other reads = refl
reads_other x link (Sent on bytes ∷ xs) other reads = absurd (false≢true reads)
reads_other x link (Received on bytes ∷ xs) other reads =
    let parts = both_true (same_link on link) (list_all (is_read_of link) xs) reads in
    ap (λ b. record { bytes = (if b then bytes else []) ++ heard_on x xs; ended = has_ended x xs }) (not_it x link on other parts.0) ∙ reads_other x link xs other parts.1
reads_other x link (LinkEnded on ∷ xs) other reads =
    let parts = both_true (same_link on link) (list_all (is_read_of link) xs) reads in
    ap (λ b. record { bytes = heard_on x xs; ended = b || has_ended x xs }) (not_it x link on other parts.0) ∙ reads_other x link xs other parts.1

-- A LINK OF WHICH NO EVENT TELLS

unheard_later : (link : ℕ) (e : Event) (past : List Event) → list_any (is_heard_on link) (e ∷ past) ≡ false → list_any (is_heard_on link) past ≡ false
unheard_later link e past unheard = (either_false (is_heard_on link e) (list_any (is_heard_on link) past) unheard).1

-- it has its whole stream before it
rest_whole : (streams : LinkName → Stream) (method : Method) (r link : ℕ) (past : List Event) → list_any (is_heard_on link) past ≡ false → rest streams method r link past ≡ streams (record { request = r; nth = link })
rest_whole streams method r link [] unheard = refl
rest_whole streams method r link (e ∷ past) unheard = other e unheard (rest_whole streams method r link past (unheard_later link e past unheard))
  where
    other : (x : Event) → list_any (is_heard_on link) (x ∷ past) ≡ false → rest streams method r link past ≡ streams (record { request = r; nth = link })
        → rest streams method r link (x ∷ past) ≡ streams (record { request = r; nth = link })
    other (Replied on reply) u f =
        let parts = either_false (on == link) (list_any (is_heard_on link) past) u in
        ap (λ b. if b then behind_reply method (rest streams method r link past) else rest streams method r link past) parts.0 ∙ f
    other _ u f = f

no_reply : (link : ℕ) (past : List Event) → list_any (is_heard_on link) past ≡ false → has_reply link past ≡ false
no_reply link [] unheard = refl
no_reply link (e ∷ past) unheard = by e unheard (no_reply link past (unheard_later link e past unheard))
  where
    by : (x : Event) → list_any (is_heard_on link) (x ∷ past) ≡ false → has_reply link past ≡ false → has_reply link (x ∷ past) ≡ false
    by (Replied on reply) u f = ap (λ b. if b then true else has_reply link past) (either_false (on == link) (list_any (is_heard_on link) past) u).0 ∙ f
    by _ u f = f

-- A READING

-- the stream shows the answer
abbrev pub IsShownBy : Method → Stream → ReadEnd → Type 0
IsShownBy method stream (Whole told) = (n : ℕ) × (reply method stream.bytes stream.ended ≡ Ok (Some (told, n)))
IsShownBy method stream (BrokenEnd fault) = reply method stream.bytes stream.ended ≡ Err fault
IsShownBy method stream Lost = Unit {0}
IsShownBy method stream (Failed count) = Unit {0}
IsShownBy method stream NoMemory = Unit {0}

-- what was read of a new link shows it
pub shown_read : (link : LinkName) (method : Method) (streams : Option (LinkName → List ℕ)) (old new : Option (List Traffic)) (end : ReadEnd) (read : IsReplyRead link method streams old new end)
    → IsShownBy method (read_on link (read.front ++ read.last)) end
shown_read link method streams old new (Whole told) read = (read.shows.0, read.shows.1)
shown_read link method streams old new (BrokenEnd fault) read = read.shows.0
shown_read link method streams old new Lost read = tt
shown_read link method streams old new (Failed count) read = tt
shown_read link method streams old new NoMemory read = tt

-- and so does its whole stream
pub shown_sent : (link : LinkName) (method : Method) (streams : LinkName → List ℕ) (old : List Traffic) (new : Option (List Traffic)) (end : ReadEnd) → heard_on link old ≡ []
    → IsReplyRead link method (Some streams) (Some old) new end → IsShownBy method (ended (streams link)) end
shown_sent link method streams old new (Whole told) unread read = reply_sent link method streams old new told unread read
shown_sent link method streams old new (BrokenEnd fault) unread read = fault_sent link method streams old new fault unread read
shown_sent link method streams old new Lost unread read = tt
shown_sent link method streams old new (Failed count) unread read = tt
shown_sent link method streams old new NoMemory unread read = tt

module _ (streams : LinkName → Stream) (method : Method) (r link : ℕ) (past : List Event) (unheard : list_any (is_heard_on link) past ≡ false) where
  hears_reply : (told : Reply) (n : ℕ) → reply method (streams (record { request = r; nth = link })).bytes (streams (record { request = r; nth = link })).ended ≡ Ok (Some (told, n)) → Hears streams method r (Replied link told) past
  unfolding reply_in
  hears_reply told n shows = ap (λ (st : Stream). reply_shown (reply method st.bytes st.ended)) (rest_whole streams method r link past unheard) ∙ ap reply_shown shows

  hears_fault : (fault : WireFault) → reply method (streams (record { request = r; nth = link })).bytes (streams (record { request = r; nth = link })).ended ≡ Err fault → Hears streams method r (Broken link fault) past
  unfolding fault_in
  hears_fault fault shows = (
    ap (λ b. b && is_at_end (rest streams method r link past)) (no_reply link past unheard),
    ap (λ (st : Stream). fault_shown (reply method st.bytes st.ended)) (rest_whole streams method r link past unheard) ∙ ap fault_shown shows,
  )

  -- what a reading adds to what was heard
  pub heard_into : (end : ReadEnd) (now : List Event) → IsShownBy method (streams (record { request = r; nth = link })) end → ReadsInto link end past now → IsHeard streams method r past → IsHeard streams method r now
  heard_into (Whole told) now shows (inl same) h = subst (IsHeard streams method r) (sym same) (h, hears_reply told shows.0 shows.1)
  heard_into (Whole told) now shows (inr same) h = subst (IsHeard streams method r) (sym same) h
  heard_into (BrokenEnd fault) now shows same h = subst (IsHeard streams method r) (sym same) (h, hears_fault fault shows)
  heard_into Lost now shows same h = absurd same
  heard_into (Failed count) now shows same h = subst (IsHeard streams method r) (sym same) (h, tt)
  heard_into NoMemory now shows same h = subst (IsHeard streams method r) (sym same) h

-- nothing is written by it
pub sends_read : (s : Setting) (link : ℕ) (end : ReadEnd) (past now : List Event) → ReadsInto link end past now → sends s now ≡ sends s past
sends_read s link (Whole told) past now (inl same) = ap (sends s) same
sends_read s link (Whole told) past now (inr same) = ap (sends s) same
sends_read s link (BrokenEnd fault) past now same = ap (sends s) same
sends_read s link Lost past now same = absurd same
sends_read s link (Failed count) past now same = ap (sends s) same
sends_read s link NoMemory past now same = ap (sends s) same

-- and of other links no event tells more
pub unheard_read : (link k : ℕ) (end : ReadEnd) (past now : List Event) → (link == k) ≡ false → ReadsInto link end past now → list_any (is_heard_on k) now ≡ list_any (is_heard_on k) past
unheard_read link k (Whole told) past now other (inl same) = ap (list_any (is_heard_on k)) same ∙ ap (λ b. b || list_any (is_heard_on k) past) other
unheard_read link k (Whole told) past now other (inr same) = ap (list_any (is_heard_on k)) same
unheard_read link k (BrokenEnd fault) past now other same = ap (list_any (is_heard_on k)) same ∙ ap (λ b. b || list_any (is_heard_on k) past) other
unheard_read link k Lost past now other same = absurd same
unheard_read link k (Failed count) past now other same = ap (list_any (is_heard_on k)) same
unheard_read link k NoMemory past now other same = ap (list_any (is_heard_on k)) same
