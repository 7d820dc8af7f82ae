-- A reading of a link, and what it adds to a request's past.
use Rattle.std.proofs.Common.{◌≡◌, ◌∙◌, ℕ, ◌==◌, ◌&&◌, ◌||◌, ◌++◌, Bool, true, false, List, [], ◌∷◌, length, drop, Option, Some, Ok, Err, refl, sym, ap, subst, arith, if◌then◌else◌}
use Rattle.std.proofs.lemmas.Bool.{eqb-true}
use Rattle.std.proofs.lemmas.Bool.Decides.{nat_tests}
use Rattle.std.proofs.lemmas.List.{append-nil}
use Rattle.std.proofs.lemmas.List.Folds.{list_any-append}
use Rattle.std.proofs.lemmas.Grind.{flat_map-append}
use Rattle.spaces.specs.declared.roster.Method.{Method}
use Rattle.link_trait.specs.declared.links.LinkName.{LinkName}
use Rattle.link_trait.specs.declared.dialer.Traffic.{Traffic}
use Rattle.link_trait.specs.declared.dialer.Traffic.TheVariants.{Sent, Received, Ended}
use Rattle.link_trait.specs.Links.{Stream, same_link, heard_in, heard_on, has_ended, is_end_of, read_on, are_ended_last}
use Rattle.link_trait.proofs.LinkLemmas.{same_name}
use Rattle.wire_head.specs.declared.reply.Reply.{Reply}
use Rattle.wire_head.specs.declared.reply.WireFault.{WireFault}
use Rattle.wire_head.specs.Replies.{reply}
use Rattle.connection_binding.specs.LinkStates.{LinkState, new_link}
use Rattle.connection_binding.specs.Readings.{behind, is_gone as is_gone_link, Shows, IsNextRead}
use Rattle.connection_binding.specs.declared.ends.ReadEnd.{ReadEnd}
use Rattle.connection_binding.specs.declared.ends.ReadEnd.TheVariants.{Whole, Broken, Lost, Failed, NoMemory}
use Rattle.auth_runs.specs.declared.event.Event.{Event}
use Rattle.auth_runs.specs.declared.event.Event.TheVariants.{Headed, Replied, LinkLost}
use Rattle.trace_rule.specs.Holding.{has_reply}
use Rattle.trace_rule.specs.Heard.{reply_shown, used_shown, fault_shown, reply_in, reply_len, fault_in, behind_reply, rest, is_at_end, is_gone, Hears, IsHeard}
use Rattle.link_laws.specs.Rests.{read_of, IsMoreBy, AreMoreBy, IsAt}
use Rattle.link_laws.specs.Steps.{past_read}
use Rattle.link_laws.proofs.Growing.{reply_more, gone_more, fault_more, rest_more, heard_more}

both_true : (a b : Bool) → (a && b) ≡ true → (a ≡ true) × (b ≡ true)
both_true true b is = (refl, is)
both_true false b is = cc is

no_length : (xs : List ℕ) → (length xs == 0) ≡ true → xs ≡ []
no_length [] is = refl
no_length (x ∷ xs) is = let none : length (x ∷ xs) ≡ 0 = eqb-true (length (x ∷ xs)) 0 is in absurd (omega (arith, none))

no_part : (xs ys : List ℕ) → xs ++ ys ≡ [] → ys ≡ []
no_part [] ys is = is
no_part (x ∷ xs) ys is = cc is

-- WHAT IS TOLD LATER

-- behind a link's end nothing of it is read
ended_here : (link on : LinkName) (old more : List Traffic) (x : Bool) → same_link on link ≡ x → (length (heard_on on (old ++ more)) == 0) ≡ true
    → (has_ended link old ≡ true → heard_on link more ≡ []) → (x || has_ended link old) ≡ true → heard_on link more ≡ []
ended_here link on old more true is none later there =
    let nothing : heard_on link (old ++ more) ≡ [] = subst (λ (name : LinkName). heard_on name (old ++ more) ≡ []) (same_name on link is) (no_length (heard_on on (old ++ more)) none) in
    no_part (heard_on link old) (heard_on link more) (sym (flat_map-append (heard_in link) old more) ∙ nothing)
ended_here link on old more false is none later there = later there

ended_end : (link : LinkName) (old more : List Traffic) → are_ended_last (old ++ more) ≡ true → has_ended link old ≡ true → heard_on link more ≡ []
ended_end link [] more last there = cc there
ended_end link (Ended on ∷ old) more last there =
    let parts = both_true (length (heard_on on (old ++ more)) == 0) (are_ended_last (old ++ more)) last in
    ended_here link on old more (same_link on link) refl parts.0 (λ earlier. ended_end link old more parts.1 earlier) there
ended_end link (Sent on bytes ∷ old) more last there = ended_end link old more last there
ended_end link (Received on bytes ∷ old) more last there = ended_end link old more last there

-- what is read later comes behind
pub reads_more : (old more : List Traffic) → are_ended_last (old ++ more) ≡ true → AreMoreBy (λ link. heard_on link more) (read_of old) (read_of (old ++ more))
reads_more old more last link = record {
  bytes = flat_map-append (heard_in link) old more;
  at_end = λ ended.
      let still : has_ended link (old ++ more) ≡ true = rw (list_any-append, ended) refl in (ended_end link old more last ended, still);
}

-- RESTS

ended_one : (a b : Stream) (e x : Bool) → a.ended ≡ e → b.ended ≡ e → (if x then a else b).ended ≡ e
ended_one a b e true one other = one
ended_one a b e false one other = other

-- a rest has ended where its link has
pub rest_ended : (streams : LinkName → Stream) (method : Method) (r link : ℕ) (past : List Event) → (rest streams method r link past).ended ≡ (streams (record { request = r; nth = link })).ended
rest_ended streams method r link [] = refl
rest_ended streams method r link (Replied on reply ∷ past) =
    ended_one (behind_reply method (rest streams method r link past)) (rest streams method r link past) (streams (record { request = r; nth = link })).ended (on == link)
    (rest_ended streams method r link past) (rest_ended streams method r link past)
rest_ended streams method r link (event ∷ past) = rest_ended streams method r link past

rest_one : (a b : Stream) (x : Bool) → x ≡ false → (if x then a else b) ≡ b
rest_one a b x is = ap (λ (t : Bool). if t then a else b) is

-- of a link that gave no reply all is the rest
pub rest_new : (streams : LinkName → Stream) (method : Method) (r link : ℕ) (past : List Event) → has_reply link past ≡ false
    → rest streams method r link past ≡ streams (record { request = r; nth = link })
rest_new streams method r link [] none = refl
rest_new streams method r link (Replied on reply ∷ past) none = by_link (on == link) none (λ none. rest_new streams method r link past none)
  where
    by_link : (x : Bool) → (if x then true else has_reply link past) ≡ false
        → (has_reply link past ≡ false → rest streams method r link past ≡ streams (record { request = r; nth = link }))
        → (if x then behind_reply method (rest streams method r link past) else rest streams method r link past) ≡ streams (record { request = r; nth = link })
    by_link true is later = cc is
    by_link false is later = later is
rest_new streams method r link (event ∷ past) none = rest_new streams method r link past none

-- a link of which nothing was read keeps nothing
pub new_at : (streams : LinkName → Stream) (method : Method) (r link : ℕ) (past : List Event) → (streams (record { request = r; nth = link })).bytes ≡ [] → has_reply link past ≡ false
    → IsAt streams method r link past (new_link (record { request = r; nth = link }))
new_at streams method r link past unread none = record {
  name = refl;
  kept = ap (λ (s : Stream). s.bytes) (rest_new streams method r link past none) ∙ unread;
  replied = sym none;
}

-- where nothing more of a link is read, it keeps what it kept
pub at_more : (more : LinkName → List ℕ) (before now : LinkName → Stream) (method : Method) (r link : ℕ) (past : List Event) (state : LinkState)
    → AreMoreBy more before now → more (record { request = r; nth = link }) ≡ [] → IsHeard before method r past → IsAt before method r link past state → IsAt now method r link past state
at_more more before now method r link past state grew none heard at = record {
  name = at.name;
  kept = (rest_more more before now grew method r link past heard).bytes ∙ ap (λ (m : List ℕ). (rest before method r link past).bytes ++ m) none
      ∙ append-nil (rest before method r link past).bytes ∙ at.kept;
  replied = at.replied;
}

-- READINGS

-- the order in which the end is looked at
turned : (a b c : Bool) → (a && (b && c)) ≡ (c && (a && b))
turned true true true = refl
turned true true false = refl
turned true false true = refl
turned true false false = refl
turned false b true = refl
turned false b false = refl

lost_heard : (streams : LinkName → Stream) (method : Method) (r link : ℕ) (past : List Event) → is_gone streams method r link past ≡ true → Hears streams method r (LinkLost link) past
lost_heard streams method r link [] gone = tt
lost_heard streams method r link (Headed on bytes ∷ past) gone = gone
lost_heard streams method r link (event ∷ past) gone = tt

same_number : (n : ℕ) → (n == n) ≡ true
same_number n = grind (arith, nat_tests)

module _ (old reads : List Traffic) (last : are_ended_last (old ++ reads) ≡ true) (method : Method) (r link : ℕ) (past : List Event) (heard : IsHeard (read_of old) method r past)
    (state : LinkState) (at : IsAt (read_of old) method r link past state) where
  abbrev now : LinkName → Stream
  now = read_of (old ++ reads)

  abbrev name : LinkName
  name = record { request = r; nth = link }

  abbrev there : Stream
  there = behind state (read_on state.name reads)

  abbrev rest_now : Stream
  rest_now = rest now method r link past

  -- what there was of the link is its rest, but for an end that was read before
  rest_there : IsMoreBy [] there rest_now
  rest_there =
      let m = rest_more (λ on. heard_on on reads) (read_of old) now (reads_more old reads last) method r link past heard in
      record {
        bytes = m.bytes ∙ ap (λ (k : List ℕ). k ++ heard_on name reads) at.kept ∙ ap (λ (n : LinkName). state.kept ++ heard_on n reads) (sym at.name) ∙ sym (append-nil (state.kept ++ heard_on state.name reads));
        at_end = λ ended.
            let here : has_ended name reads ≡ true = subst (λ (n : LinkName). has_ended n reads ≡ true) at.name ended in
            let all : has_ended name (old ++ reads) ≡ true = list_any-append (is_end_of name) old reads ∙ or_true (has_ended name old) (has_ended name reads) here in
            (refl, rest_ended now method r link past ∙ all);
      }
    where
      or_true : (a b : Bool) → b ≡ true → (a || b) ≡ true
      or_true true b is = refl
      or_true false b is = is

  pub still_heard : IsHeard now method r past
  still_heard = heard_more (λ on. heard_on on reads) (read_of old) now (reads_more old reads last) method r past heard

  gone_now : (x : Bool) → is_gone_link state there ≡ x → (has_reply link past && is_at_end there) ≡ x
  gone_now x is = ap (λ (b : Bool). b && is_at_end there) (sym at.replied) ∙ sym (turned there.ended (length there.bytes == 0) state.has_replied) ∙ is

  whole_now : (shown : Reply) (n : ℕ) → reply method there.bytes there.ended ≡ Ok (Some (shown, n)) → (reply_in method rest_now ≡ Some shown) × ((behind_reply method rest_now).bytes ≡ drop n there.bytes)
  unfolding reply_in reply_len
  whole_now shown n told =
      let m = reply_more method there rest_now [] shown rest_there (ap reply_shown told) in
      (m.0, m.1.bytes ∙ append-nil (behind_reply method there).bytes ∙ ap (λ (k : ℕ). drop k there.bytes) (ap used_shown told))

  fault_now : (fault : WireFault) → reply method there.bytes there.ended ≡ Err fault → is_gone_link state there ≡ false → (is_gone now method r link past ≡ false) × (fault_in method rest_now ≡ Some fault)
  unfolding fault_in
  fault_now fault told open_ = fault_more method (has_reply link past) there rest_now [] fault rest_there (gone_now false open_) (ap fault_shown told)

  -- the event that a reading's end is was heard
  pub heard_end : (end : ReadEnd) (left : List ℕ) → Shows state method there end left → IsHeard now method r (past_read link end past)
  heard_end (Whole shown) left shows = (still_heard, (whole_now shown shows.0 shows.1).0)
  heard_end (Broken fault) left shows = (still_heard, fault_now fault shows.0 shows.1)
  heard_end Lost left shows =
      (still_heard, lost_heard now method r link past (gone_more (has_reply link past) there rest_now [] rest_there (gone_now true shows.0)))
  heard_end (Failed count) left shows = (still_heard, tt)
  heard_end NoMemory left shows = still_heard

  -- and what is left behind a reply is kept
  pub kept_end : (shown : Reply) (left : List ℕ) → Shows state method there (Whole shown) left
      → IsAt now method r link (Replied link shown ∷ past) (record { name = state.name; kept = left; has_replied = true })
  kept_end shown left shows =
      let taken : rest now method r link (Replied link shown ∷ past) ≡ behind_reply method rest_now = ap (λ (x : Bool). if x then behind_reply method rest_now else rest_now) (same_number link) in
      record {
        name = at.name;
        kept = ap (λ (s : Stream). s.bytes) taken ∙ (whole_now shown shows.0 shows.1).1 ∙ sym shows.2;
        replied = sym (ap (λ (x : Bool). if x then true else has_reply link past) (same_number link));
      }

some_same : {A : Type 0} (x y : A) → Some x ≡ Some y → x ≡ y
some_same x y is = cc

module _ (state : LinkState) (method : Method) (streams : Option (LinkName → List ℕ)) (old new : List Traffic) where
  pub heard_reading : (end : ReadEnd) (r link : ℕ) (past : List Event) → IsNextRead state method streams (Some old) (Some new) end → are_ended_last new ≡ true
      → IsHeard (read_of old) method r past → IsAt (read_of old) method r link past state → IsHeard (read_of new) method r (past_read link end past)
  heard_reading end r link past read last heard at =
      let grew : new ≡ old ++ (read.front ++ read.last) = some_same new (old ++ (read.front ++ read.last)) read.grew in
      subst (λ told. IsHeard (read_of told) method r (past_read link end past)) (sym grew)
      (heard_end old (read.front ++ read.last) (ap are_ended_last (sym grew) ∙ last) method r link past heard state at end read.left read.shows)

  pub kept_reading : (shown : Reply) (r link : ℕ) (past : List Event) → (read : IsNextRead state method streams (Some old) (Some new) (Whole shown)) → are_ended_last new ≡ true
      → IsHeard (read_of old) method r past → IsAt (read_of old) method r link past state
      → IsAt (read_of new) method r link (Replied link shown ∷ past) (record { name = state.name; kept = read.left; has_replied = true })
  kept_reading shown r link past read last heard at =
      let grew : new ≡ old ++ (read.front ++ read.last) = some_same new (old ++ (read.front ++ read.last)) read.grew in
      subst (λ told. IsAt (read_of told) method r link (Replied link shown ∷ past) (record { name = state.name; kept = read.left; has_replied = true })) (sym grew)
      (kept_end old (read.front ++ read.last) (ap are_ended_last (sym grew) ∙ last) method r link past heard state at shown read.left read.shows)
