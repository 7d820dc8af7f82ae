-- A reading of a link on which nothing was read before.
use Rattle.std.proofs.Common.{◌≡◌, ◌∙◌, ℕ, Bool, true, false, List, [], ◌++◌, length, drop, Option, Some, None, Result, Ok, Err, refl, sym, subst, ap}
use Rattle.std.proofs.lemmas.List.{take-append-drop}
use Rattle.std.proofs.lemmas.List.Folds.{list_any-append}
use Rattle.std.proofs.lemmas.Grind.{flat_map-append}
use Rattle.spaces.specs.declared.roster.Method.{Method}
use Rattle.link_trait.specs.declared.links.LinkName.{LinkName}
use Rattle.link_trait.specs.declared.dialer.Traffic.{Traffic}
use Rattle.link_trait.specs.Links.{Stream, heard_in, heard_on, has_ended, read_on}
use Rattle.wire_head.specs.declared.reply.Reply.{Reply}
use Rattle.wire_head.specs.declared.reply.WireFault.{WireFault}
use Rattle.wire_head.specs.Replies.{reply}
use Rattle.wire_head.proofs.UsedLemmas.{outcome_stays}
use Rattle.connection_binding.specs.declared.ends.ReadEnd.{ReadEnd}
use Rattle.connection_binding.specs.declared.ends.ReadEnd.TheVariants.{Whole, Broken}
use Rattle.connection_binding.specs.LinkStates.{new_link}
use Rattle.connection_binding.specs.Readings.{Shows, IsNextOf, IsReplyRead}

-- what was read later is all that was read
read_later : (link : LinkName) (old more : List Traffic) → read_on link old ≡ record { bytes = []; ended = false } → read_on link (old ++ more) ≡ read_on link more
read_later link old more unread =
    let heard : heard_on link (old ++ more) ≡ heard_on link more =
    flat_map-append (heard_in link) old more ∙ ap (λ v. v ++ heard_on link more) (ap (λ (s : Stream). s.bytes) unread) in
    let going : has_ended link old ≡ false = ap (λ (s : Stream). s.ended) unread in
    let ended : has_ended link (old ++ more) ≡ has_ended link more = rw (list_any-append, going) refl in
    rw (heard, ended) refl

some_same : {A : Type 0} (x y : A) → Some x ≡ Some y → x ≡ y
some_same x y is = cc

pub told_of_link : (link : LinkName) (method : Method) (streams : Option (LinkName → List ℕ)) (old new : List Traffic) (end : ReadEnd)
    → read_on link old ≡ record { bytes = []; ended = false } → IsReplyRead link method streams (Some old) (Some new) end
    → (left : List ℕ) × Shows (new_link link) method (read_on link new) end left
told_of_link link method streams old new end unread read =
    let grew : new ≡ old ++ (read.front ++ read.last) = some_same new (old ++ (read.front ++ read.last)) read.grew in
    let whole : read_on link new ≡ read_on link (read.front ++ read.last) = ap (read_on link) grew ∙ read_later link old (read.front ++ read.last) unread in
    (read.left, subst (λ s. Shows (new_link link) method s end read.left) (sym whole) read.shows)

-- what a front of a stream decides, the whole stream shows
decided_by : (method : Method) (stream bytes : List ℕ) (ended : Bool) (told : Result (Option (Reply × ℕ)) WireFault)
    → IsNextOf stream (record { bytes = bytes; ended = ended }) → ¬ (told ≡ Ok None) → reply method bytes ended ≡ told → reply method stream true ≡ told
decided_by method stream bytes true told next decides is = ap (λ v. reply method v true) (next.whole refl) ∙ is
decided_by method stream bytes false told next decides is =
    let parts : stream ≡ bytes ++ drop (length bytes) stream =
    sym (take-append-drop (length bytes) stream) ∙ ap (λ v. v ++ drop (length bytes) stream) next.front in
    ap (λ v. reply method v true) parts
    ∙ outcome_stays method bytes (drop (length bytes) stream) true (λ none. decides (sym is ∙ none))
    ∙ is

-- a link of which nothing was read goes on at the front of its stream
from_front : (stream : List ℕ) (heard : List ℕ) (read : Stream) → heard ≡ [] → IsNextOf (drop (length heard) stream) read → IsNextOf stream read
from_front stream heard read none next = subst (λ v. IsNextOf (drop (length v) stream) read) none next

whole_decides : (r : Reply) (n : ℕ) → ¬ (◌≡◌ {A = Result (Option (Reply × ℕ)) WireFault} (Ok (Some (r, n))) (Ok None))
whole_decides r n is = cc

fault_decides : (fault : WireFault) → ¬ (◌≡◌ {A = Result (Option (Reply × ℕ)) WireFault} (Err fault) (Ok None))
fault_decides fault is = cc

pub reply_sent : (link : LinkName) (method : Method) (streams : LinkName → List ℕ) (old : List Traffic) (new : Option (List Traffic)) (r : Reply) → heard_on link old ≡ []
    → IsReplyRead link method (Some streams) (Some old) new (Whole r) → (n : ℕ) × (reply method (streams link) true ≡ Ok (Some (r, n)))
reply_sent link method streams old new r unread read =
    let all = read_on link (read.front ++ read.last) in
    let next = from_front (streams link) (heard_on link old) all unread read.of_stream in
    (read.shows.0, decided_by method (streams link) all.bytes all.ended (Ok (Some (r, read.shows.0))) next (whole_decides r read.shows.0) read.shows.1)

pub fault_sent : (link : LinkName) (method : Method) (streams : LinkName → List ℕ) (old : List Traffic) (new : Option (List Traffic)) (fault : WireFault) → heard_on link old ≡ []
    → IsReplyRead link method (Some streams) (Some old) new (Broken fault) → reply method (streams link) true ≡ Err fault
fault_sent link method streams old new fault unread read =
    let all = read_on link (read.front ++ read.last) in
    let next = from_front (streams link) (heard_on link old) all unread read.of_stream in
    decided_by method (streams link) all.bytes all.ended (Err fault) next (fault_decides fault) read.shows.0
