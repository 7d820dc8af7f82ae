-- Streams of which more is read: what they showed stays.
use Rattle.std.proofs.Common.{◌≡◌, ◌∙◌, ℕ, suc, ◌≤◌, ◌==◌, ◌&&◌, ◌++◌, Bool, true, false, List, [], ◌∷◌, length, drop, Option, Some, None, Result, Ok, Err, refl, sym, ap, subst, arith, if◌then◌else◌}
use Rattle.std.proofs.lemmas.Bool.{eqb-true}
use Rattle.std.proofs.lemmas.Bool.Decides.{nat_tests}
use Rattle.std.proofs.lemmas.List.{append-nil, drop-append-le}
use Rattle.spaces.specs.declared.roster.Method.{Method}
use Rattle.link_trait.specs.declared.links.LinkName.{LinkName}
use Rattle.link_trait.specs.Links.{Stream}
use Rattle.wire_head.specs.declared.reply.Reply.{Reply}
use Rattle.wire_head.specs.declared.reply.WireFault.{WireFault}
use Rattle.wire_head.specs.Replies.{reply}
use Rattle.wire_head.proofs.UsedLemmas.{outcome_stays}
use Rattle.wire_head.proofs.WithinLemmas.{ends_within}
use Rattle.auth_runs.specs.declared.event.Event.{Event}
use Rattle.auth_runs.specs.declared.event.Event.TheVariants.{Headed, Replied, Broken, LinkLost}
use Rattle.trace_rule.specs.Holding.{has_reply}
use Rattle.trace_rule.specs.Heard.{reply_shown, used_shown, fault_shown, reply_in, reply_len, fault_in, behind_reply, rest, is_at_end, Hears, IsHeard}
use Rattle.link_laws.specs.Rests.{IsMoreBy, AreMoreBy}

-- WHAT A STREAM SHOWS

-- a stream's answer stays
pub more_shown : (method : Method) (bytes : List ℕ) (ended : Bool) (b : Stream) (more : List ℕ) → IsMoreBy more (record { bytes = bytes; ended = ended }) b
    → ¬ (reply method bytes ended ≡ Ok None) → reply method b.bytes b.ended ≡ reply method bytes ended
more_shown method bytes true b more grew decides =
    let end = grew.at_end refl in
    ap (λ (text : List ℕ). reply method text b.ended) (grew.bytes ∙ ap (λ (m : List ℕ). bytes ++ m) end.0 ∙ append-nil bytes) ∙ ap (λ (e : Bool). reply method bytes e) end.1
more_shown method bytes false b more grew decides = ap (λ (text : List ℕ). reply method text b.ended) grew.bytes ∙ outcome_stays method bytes more b.ended decides

abbrev whole_of : Reply → ℕ → Result (Option (Reply × ℕ)) WireFault
whole_of r n = Ok (Some (r, n))

shown_whole : (told : Result (Option (Reply × ℕ)) WireFault) (r : Reply) → reply_shown told ≡ Some r → told ≡ Ok (Some (r, used_shown told))
shown_whole (Ok (Some (s, n))) r is = let same : s ≡ r = cc is in ap (λ (x : Reply). whole_of x n) same
shown_whole (Ok None) r is = cc is
shown_whole (Err fault) r is = cc is

shown_fault : (told : Result (Option (Reply × ℕ)) WireFault) (fault : WireFault) → fault_shown told ≡ Some fault → told ≡ Err fault
shown_fault (Ok shown) fault is = cc is
shown_fault (Err other) fault is = let same : other ≡ fault = cc is in ap Err same

whole_decides : (told : Result (Option (Reply × ℕ)) WireFault) (r : Reply) (n : ℕ) → told ≡ Ok (Some (r, n)) → ¬ (told ≡ Ok None)
whole_decides told r n is none = cc

fault_decides : (told : Result (Option (Reply × ℕ)) WireFault) (fault : WireFault) → told ≡ Err fault → ¬ (told ≡ Ok None)
fault_decides told fault is none = let clash : ◌≡◌ {A = Result (Option (Reply × ℕ)) WireFault} (Err fault) (Ok None) = sym is ∙ none in cc clash

-- so does a reply, and what is behind it has as much more
pub reply_more : (method : Method) (a b : Stream) (more : List ℕ) (r : Reply) → IsMoreBy more a b → reply_in method a ≡ Some r
    → (reply_in method b ≡ Some r) × IsMoreBy more (behind_reply method a) (behind_reply method b)
unfolding reply_in reply_len
reply_more method a b more r grew shown =
    let whole : reply method a.bytes a.ended ≡ Ok (Some (r, reply_len method a)) = shown_whole (reply method a.bytes a.ended) r shown in
    let same : reply method b.bytes b.ended ≡ reply method a.bytes a.ended =
    more_shown method a.bytes a.ended b more grew (whole_decides (reply method a.bytes a.ended) r (reply_len method a) whole) in
    let len : reply_len method b ≡ reply_len method a = ap used_shown same in
    let fits : reply_len method a ≤ length a.bytes = ends_within method a.bytes a.ended r (reply_len method a) whole in (
      ap reply_shown same ∙ shown,
      record {
        bytes = ap (λ (n : ℕ). drop n b.bytes) len ∙ ap (drop (reply_len method a)) grew.bytes ∙ drop-append-le (reply_len method a) a.bytes more fits;
        at_end = grew.at_end;
      },
    )

-- an end without a byte stays one
at_end_more : (bytes : List ℕ) (ended : Bool) (b : Stream) (more : List ℕ) → IsMoreBy more (record { bytes = bytes; ended = ended }) b
    → (ended && length bytes == 0) ≡ true → (b.ended && length b.bytes == 0) ≡ true
at_end_more [] true b more grew there =
    let end = grew.at_end refl in
    ap (λ (e : Bool). e && length b.bytes == 0) end.1 ∙ ap (λ (text : List ℕ). length text == 0) (grew.bytes ∙ end.0)
at_end_more (x ∷ xs) true b more grew there = let none : suc (length xs) ≡ 0 = eqb-true (length (x ∷ xs)) 0 there in absurd (omega (arith, none))
at_end_more bytes false b more grew there = cc there

pub gone_more : (replied : Bool) (a b : Stream) (more : List ℕ) → IsMoreBy more a b → (replied && is_at_end a) ≡ true → (replied && is_at_end b) ≡ true
gone_more true a b more grew there = at_end_more a.bytes a.ended b more grew there
gone_more false a b more grew there = there

some_bytes : (e : Bool) (x : ℕ) (xs : List ℕ) → (e && length (x ∷ xs) == 0) ≡ false
some_bytes true x xs = grind (arith, nat_tests)
some_bytes false x xs = refl

open_more : (method : Method) (bytes : List ℕ) (ended : Bool) (b : Stream) (more : List ℕ) (fault : WireFault) → IsMoreBy more (record { bytes = bytes; ended = ended }) b
    → (ended && length bytes == 0) ≡ false → reply method bytes ended ≡ Err fault → (b.ended && length b.bytes == 0) ≡ false
open_more method [] true b more fault grew there shown = cc there
open_more method [] false b more fault grew there shown = let clash : ◌≡◌ {A = Result (Option (Reply × ℕ)) WireFault} (Ok None) (Err fault) = shown in cc clash
open_more method (x ∷ xs) ended b more fault grew there shown = ap (λ (text : List ℕ). b.ended && length text == 0) grew.bytes ∙ some_bytes b.ended x (xs ++ more)

left_open : (method : Method) (replied : Bool) (a b : Stream) (more : List ℕ) (fault : WireFault) → IsMoreBy more a b
    → (replied && is_at_end a) ≡ false → reply method a.bytes a.ended ≡ Err fault → (replied && is_at_end b) ≡ false
left_open method true a b more fault grew there shown = open_more method a.bytes a.ended b more fault grew there shown
left_open method false a b more fault grew there shown = refl

-- a fault stays, where it isn't a lost link's
pub fault_more : (method : Method) (replied : Bool) (a b : Stream) (more : List ℕ) (fault : WireFault) → IsMoreBy more a b
    → (replied && is_at_end a) ≡ false → fault_in method a ≡ Some fault → ((replied && is_at_end b) ≡ false) × (fault_in method b ≡ Some fault)
unfolding fault_in
fault_more method replied a b more fault grew there shown =
    let told : reply method a.bytes a.ended ≡ Err fault = shown_fault (reply method a.bytes a.ended) fault shown in (
      left_open method replied a b more fault grew there told,
      ap fault_shown (more_shown method a.bytes a.ended b more grew (fault_decides (reply method a.bytes a.ended) fault told)) ∙ shown,
    )

-- PASTS

module _ (more : LinkName → List ℕ) (before now : LinkName → Stream) (grew : AreMoreBy more before now) (method : Method) (r : ℕ) where
  behind_one : (link on : ℕ) (reply : Reply) (past : List Event) (x : Bool) → (on == link) ≡ x
      → IsMoreBy (more (record { request = r; nth = link })) (rest before method r link past) (rest now method r link past)
      → reply_in method (rest before method r on past) ≡ Some reply
      → IsMoreBy (more (record { request = r; nth = link })) (if x then behind_reply method (rest before method r link past) else rest before method r link past)
      (if x then behind_reply method (rest now method r link past) else rest now method r link past)
  behind_one link on reply past true is so_far shown =
      let there : reply_in method (rest before method r link past) ≡ Some reply = subst (λ (l : ℕ). reply_in method (rest before method r l past) ≡ Some reply) (eqb-true on link is) shown in
      (reply_more method (rest before method r link past) (rest now method r link past) (more (record { request = r; nth = link })) reply so_far there).1
  behind_one link on reply past false is so_far shown = so_far

  -- of a link's rest as much more is there as of the link
  pub rest_more : (link : ℕ) (past : List Event) → IsHeard before method r past → IsMoreBy (more (record { request = r; nth = link })) (rest before method r link past) (rest now method r link past)
  rest_more link [] heard = grew (record { request = r; nth = link })
  rest_more link (Replied on reply ∷ past) heard = behind_one link on reply past (on == link) refl (rest_more link past heard.0) heard.1
  rest_more link (event ∷ past) heard = rest_more link past heard.0

  hears_more : (event : Event) (past : List Event) → IsHeard before method r past → Hears before method r event past → Hears now method r event past
  hears_more (Replied link reply) past heard there =
      (reply_more method (rest before method r link past) (rest now method r link past) (more (record { request = r; nth = link })) reply (rest_more link past heard) there).0
  hears_more (Broken link fault) past heard there =
      fault_more method (has_reply link past) (rest before method r link past) (rest now method r link past) (more (record { request = r; nth = link })) fault (rest_more link past heard) there.0 there.1
  hears_more (LinkLost link) (Headed on bytes ∷ past) heard there =
      gone_more (has_reply link past) (rest before method r link past) (rest now method r link past) (more (record { request = r; nth = link })) (rest_more link past heard.0) there
  hears_more (LinkLost link) past heard there = tt
  hears_more event past heard there = tt

  -- what was heard stays heard
  pub heard_more : (past : List Event) → IsHeard before method r past → IsHeard now method r past
  heard_more [] heard = tt
  heard_more (event ∷ past) heard = (heard_more past heard.0, hears_more event past heard.0 heard.1)
