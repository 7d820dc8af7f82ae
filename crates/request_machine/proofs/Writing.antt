-- What a dialer tells of a head: all of it, or, where its write did not succeed, a front or nothing.
use Rattle.std.proofs.Common.{◌≡◌, inl, inr, ℕ, ◌<◌, Bool, true, false, ◌||◌, List, [], ◌∷◌, ◌++◌, take, IfSome, is_some, refl, sym, ap, ◌∙◌, subst}
use Rattle.std.specs.declared.option.Option.{Option}
use Rattle.std.proofs.lemmas.List.{append-nil}
use Rattle.std.proofs.lemmas.List.Elements.{filter_map-append}
use Rattle.std.specs.List.{list_any}
use Rattle.spaces.specs.declared.roster.Request.{Request}
use Rattle.link_trait.specs.Told.{grown}
use Rattle.link_trait.specs.Links.{Stream, read_on, SendsPart}
use Rattle.link_trait.specs.declared.links.LinkName.{LinkName}
use Rattle.link_trait.specs.declared.dialer.Traffic.{Traffic}
use Rattle.link_trait.specs.declared.dialer.Traffic.TheVariants.{Sent}
use Rattle.auth_runs.specs.declared.event.Event.TheVariants.{Headed, WriteFailed}
use Rattle.trace_rule.specs.Settings.{Setting}
use Rattle.trace_rule.specs.Telling.{link_name, sends, is_write_fault}
use Rattle.trace_rule.specs.Heard.{IsHeard}
use Rattle.request_machine.specs.declared.stage.Stage.TheVariants.{Go, Spent}
use Rattle.request_machine.specs.Kept.{Kept, Ties}
use Rattle.request_machine.specs.Linked.{way, is_ending, Line, line, IsLinkedOn, IsLinked, nth_link, IsOnlyLink}
use Rattle.request_machine.specs.Carried.{written, sent, is_short_at, IsSentAt, is_heard_on, IsUntouched, IsCarried, TellsTraffic}
use Rattle.request_machine.proofs.Dialing.{grown_more}
use Rattle.request_machine.proofs.Hearing.{heard_same, read_quiet}
use Rattle.request_machine.proofs.Carrying.{recorded_so, exact_at, if_link}

-- what was written is not read
read_written : (x link : LinkName) (more : List Traffic) (bytes : List ℕ) → read_on x (more ++ Sent link bytes ∷ []) ≡ read_on x more
read_written x link more bytes = read_quiet x more (Sent link bytes ∷ []) refl

-- a past that goes on behind a head, and says nothing of links
pub record IsBehindHead (s : Setting) (bytes : List ℕ) (m n : Kept) : Type 0 where
  pub order : sends s n.past ≡ sends s m.past ++ record { link = link_name s m.links; bytes = bytes } ∷ []
  pub heard : (streams : LinkName → Stream) → IsHeard streams s.request.method s.number m.past → IsHeard streams s.request.method s.number n.past
  pub unheard : (k : ℕ) → list_any (is_heard_on k) n.past ≡ list_any (is_heard_on k) m.past

at_head : (s : Setting) (bytes : List ℕ) (m n : Kept) → n.past ≡ Headed m.links bytes ∷ m.past → IsBehindHead s bytes m n
at_head s bytes m n same = record {
  order = ap (sends s) same;
  heard = λ streams h. subst (IsHeard streams s.request.method s.number) (sym same) (h, tt);
  unheard = λ k. ap (list_any (is_heard_on k)) same;
}

at_fault : (s : Setting) (bytes : List ℕ) (count : ℕ) (m n : Kept) → n.past ≡ WriteFailed m.links count ∷ Headed m.links bytes ∷ m.past → IsBehindHead s bytes m n
at_fault s bytes count m n same = record {
  order = ap (sends s) same;
  heard = λ streams h. subst (IsHeard streams s.request.method s.number) (sym same) ((h, tt), tt);
  unheard = λ k. ap (list_any (is_heard_on k)) same;
}

module _ (s : Setting) (streams : Option (LinkName → List ℕ)) (before : Option (List Traffic)) (m n : Kept) (bytes : List ℕ) (more : List Traffic) (c : IsCarried s streams before m more)
    (some : is_some m.link ≡ true) (number : n.number ≡ m.number) (links : n.links ≡ m.links) (behind : IsBehindHead s bytes m n) where
  -- with traffic that reads nothing
  carried_head : (extra : List Traffic) → ((x : LinkName) → read_on x (more ++ extra) ≡ read_on x more) → IsSentAt s (is_ending (way n.stage)) n.past (sent (more ++ extra)) → IsCarried s streams before n (more ++ extra)
  carried_head extra quiet so = record {
    sent = so;
    heard = behind.heard (λ name. read_on name (more ++ extra))
        (heard_same (λ name. read_on name more) (λ name. read_on name (more ++ extra)) s.request.method s.number m.past (λ x. sym (quiet x)) c.heard);
    recorded = λ silent. recorded_so s.request.method s.number m.past n.past behind.heard streams (c.recorded silent);
    untouched = record {
      later = λ k later. by k (c.untouched.later k (subst (λ l. l < k) links later));
      last = λ opened. by n.links (subst (IsUntouched m more) (sym links) (c.untouched.last some));
    };
  }
    where
      by : (k : ℕ) → IsUntouched m more k → IsUntouched n (more ++ extra) k
      by k it = record {
        unheard = behind.unheard k ∙ it.unheard;
        unread = ap (λ r. read_on (record { request = r; nth = k }) (more ++ extra)) number ∙ quiet (nth_link (line m) k) ∙ it.unread;
      }

  module _ (name : LinkName) (old new : Option (List Traffic)) (going : is_ending (way m.stage) ≡ false) (named : name ≡ link_name s m.links) (told : old ≡ grown before more) where
    -- before it all was written
    all_before : sent more ≡ sends s m.past
    all_before = exact_at s (is_ending (way m.stage)) m.past (sent more) going c.sent

    written_part : (part : List ℕ) → sent (more ++ Sent name part ∷ []) ≡ sends s m.past ++ record { link = link_name s m.links; bytes = part } ∷ []
    written_part part =
        filter_map-append written more (Sent name part ∷ [])
        ∙ ap (λ xs. xs ++ record { link = name; bytes = part } ∷ []) all_before
        ∙ ap (λ x. sends s m.past ++ record { link = x; bytes = part } ∷ []) named

    one_more : (part : List ℕ) → new ≡ grown old (Sent name part ∷ []) → new ≡ grown before (more ++ Sent name part ∷ [])
    one_more part grew = grew ∙ ap (λ o. grown o (Sent name part ∷ [])) told ∙ grown_more before more (Sent name part ∷ [])

    -- all of the head was written
    pub wrote_all : new ≡ grown old (Sent name bytes ∷ []) → (further : List Traffic) × (new ≡ grown before further) × IsCarried s streams before n further
    wrote_all grew = (
      more ++ Sent name bytes ∷ [],
      one_more bytes grew,
      carried_head (Sent name bytes ∷ []) (λ x. read_written x name more bytes) (inl (written_part bytes ∙ sym behind.order)),
    )

    -- nothing of it was, or a front
    pub wrote_part : is_short_at (is_ending (way n.stage)) n.past ≡ true → SendsPart old new name bytes → (further : List Traffic) × (new ≡ grown before further) × IsCarried s streams before n further
    wrote_part short (inl none) = (
      more ++ [],
      none ∙ told ∙ ap (grown before) (sym (append-nil more)),
      carried_head [] (λ x. ap (read_on x) (append-nil more)) (inr (
        short,
        record {
          front = sends s m.past;
          last = record { link = link_name s m.links; bytes = bytes };
          order = behind.order;
          written = inl (ap sent (append-nil more) ∙ all_before);
        },
      )),
    )
    wrote_part short (inr (count, grew)) = (
      more ++ Sent name (take count bytes) ∷ [],
      one_more (take count bytes) grew,
      carried_head (Sent name (take count bytes) ∷ []) (λ x. read_written x name more (take count bytes)) (inr (
        short,
        record {
          front = sends s m.past;
          last = record { link = link_name s m.links; bytes = bytes };
          order = behind.order;
          written = inr (count, written_part (take count bytes));
        },
      )),
    )

or_true : (a b : Bool) → (a || (true || b)) ≡ true
or_true true b = refl
or_true false b = refl

-- a head that was written
module _ (request : Request) (m same k : Kept) (bytes : List ℕ) (streams : Option (LinkName → List ℕ)) (old new : Option (List Traffic)) (opened : List LinkName) (was : m.stage ≡ Go) (dialed : m.is_dialed ≡ true) (unchanged : same ≡ m)
    (headed : k.past ≡ Headed same.links bytes ∷ same.past) (lined : line k ≡ record (line same) { is_dialed = false }) (linked : IsLinked m) (only : IsOnlyLink (line m) opened) where
  some_link : is_some m.link ≡ true
  some_link = (subst (λ w. IsLinkedOn w (line m)) (ap way was) linked).0 ∙ dialed

  going : is_ending (way m.stage) ≡ false
  going = ap (λ st. is_ending (way st)) was

  whole_line : line k ≡ record (line m) { is_dialed = false }
  whole_line = lined ∙ ap (λ (v : Kept). record (line v) { is_dialed = false }) unchanged

  its_number : (n : Kept) → line n ≡ line k → n.number ≡ m.number
  its_number n kept = ap (λ (l : Line). l.number) (kept ∙ whole_line)

  its_links : (n : Kept) → line n ≡ line k → n.links ≡ m.links
  its_links n kept = ap (λ (l : Line). l.links) (kept ∙ whole_line)

  behind_head : k.past ≡ Headed m.links bytes ∷ m.past
  behind_head = headed ∙ ap (λ (v : Kept). Headed v.links bytes ∷ v.past) unchanged

  its_name : (s : Setting) → Ties s m → nth_link (line m) m.links ≡ link_name s m.links
  its_name s t = ap (λ r. record { request = r; nth = m.links }) (sym t.same_number)

  pub tells_all : IfSome m.link (λ name. new ≡ grown old (Sent name bytes ∷ [])) → TellsTraffic request m k streams old new
  tells_all wrote = λ s before more by t grew c.
      wrote_all s streams before m k bytes more c some_link (its_number k refl) (its_links k refl) (at_head s bytes m k behind_head)
      (nth_link (line m) m.links) old new going (its_name s t) grew (if_link (λ name. new ≡ grown old (Sent name bytes ∷ [])) m opened only some_link wrote)

  pub tells_part : (n : Kept) (link count : ℕ) → link ≡ m.links → n.past ≡ WriteFailed link count ∷ k.past → is_ending (way n.stage) ≡ true → line n ≡ line k → IfSome m.link (λ name. SendsPart old new name bytes)
      → TellsTraffic request m n streams old new
  tells_part n link count last failed ends kept wrote = λ s before more by t grew c.
      let past : n.past ≡ WriteFailed m.links count ∷ Headed m.links bytes ∷ m.past =
      failed ∙ ap (λ a. WriteFailed a count ∷ k.past) last ∙ ap (λ xs. WriteFailed m.links count ∷ xs) behind_head in
      wrote_part s streams before m n bytes more c some_link (its_number n kept) (its_links n kept) (at_fault s bytes count m n past)
      (nth_link (line m) m.links) old new going (its_name s t) grew
      (ap (λ b. is_short_at b n.past) ends ∙ ap (is_short_at true) past) (if_link (λ name. SendsPart old new name bytes) m opened only some_link wrote)

  pub tells_spent : (n : Kept) → n.past ≡ k.past → n.stage ≡ Spent → line n ≡ line k → IfSome m.link (λ name. SendsPart old new name bytes) → TellsTraffic request m n streams old new
  tells_spent n same_past now kept wrote = λ s before more by t grew c.
      let past : n.past ≡ Headed m.links bytes ∷ m.past = same_past ∙ behind_head in
      wrote_part s streams before m n bytes more c some_link (its_number n kept) (its_links n kept) (at_head s bytes m n past)
      (nth_link (line m) m.links) old new going (its_name s t) grew
      (ap (λ st. is_short_at (is_ending (way st)) n.past) now ∙ ap (is_short_at true) past ∙ or_true (list_any is_write_fault m.past || false) false) (if_link (λ name. SendsPart old new name bytes) m opened only some_link wrote)
