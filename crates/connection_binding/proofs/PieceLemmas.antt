-- What one read more does to a reading.
use Rattle.std.proofs.Common.{◌≡◌, ◌∙◌, inl, inr, ℕ, ◌+◌, ◌≤◌, Bool, true, false, List, [], ◌∷◌, ◌++◌, length, take, drop, Option, Some, None, Result, Ok, Err, refl, sym, subst, ap, append_assoc, arith}
use Rattle.std.specs.Prelude.{IfSome, min}
use Rattle.std.specs.List.{list_all}
use Rattle.std.proofs.lemmas.List.{append-nil, length-append, length-take-le, take-append-drop, drop-drop, take_all}
use Rattle.std.proofs.lemmas.List.Folds.{list_all-append, list_any-append}
use Rattle.std.proofs.lemmas.Grind.{flat_map-append}
use Rattle.std.proofs.lemmas.Bool.Decides.{nat_tests}
use Rattle.std.proofs.Math.Seq.{take-add, drop-length, drop-append-add}
use Rattle.spaces.specs.declared.roster.Method.{Method}
use Rattle.link_trait.specs.declared.links.LinkName.{LinkName}
use Rattle.link_trait.specs.declared.streams.Got.TheVariants.{Bytes as GotBytes, End as GotEnd}
use Rattle.link_trait.specs.declared.dialer.Traffic.{Traffic}
use Rattle.link_trait.specs.declared.dialer.Traffic.TheVariants.{Received, Ended}
use Rattle.link_trait.specs.Told.{grown}
use Rattle.link_trait.specs.Links.{Stream, heard_in, heard_on, has_ended, read_on, GivesFromStream}
use Rattle.link_trait.proofs.LinkLemmas.{same_self}
use Rattle.wire_head.specs.declared.reader.At.{At}
use Rattle.wire_head.specs.declared.reader.At.TheVariants.{More as MoreAt, Whole as WholeAt, Fault as FaultAt}
use Rattle.wire_head.specs.declared.reply.Reply.{Reply}
use Rattle.wire_head.specs.declared.reply.WireFault.{WireFault}
use Rattle.wire_head.specs.Feeding.{Reading, IsFed, IsAnswerAt, IsMoreAt}
use Rattle.wire_head.specs.Replies.{reply}
use Rattle.wire_head.proofs.OpenTexts.{undecided_short}
use Rattle.wire_head.proofs.WithinLemmas.{ends_at_end}
use Rattle.connection_binding.specs.LinkStates.{LinkState}
use Rattle.connection_binding.specs.declared.ends.ReadEnd.{ReadEnd}
use Rattle.connection_binding.specs.declared.ends.ReadEnd.TheVariants.{Whole, Broken, Lost, Failed, NoMemory}
use Rattle.connection_binding.specs.Ends.{IsReadFault, IsNoReadFault}
use Rattle.connection_binding.specs.Readings.{behind, is_gone, Shows, is_read_of, IsNextOf, IsOfStream, IsUndecided, IsShownAtEnd, IsOver, IsEnded, IsPieceOf, IsShown, IsFedAnswer, piece_of, IsPieceFault, IsNoPieceFault}

-- nothing more
pub grown_nothing : {A : Type 0} (told : Option (List A)) → told ≡ grown told []
grown_nothing None = refl
grown_nothing (Some items) = ap Some (sym (append-nil items))

-- more, and then more
grown_twice : {A : Type 0} (old mid new : Option (List A)) (first later : List A) → mid ≡ grown old first → new ≡ grown mid later → new ≡ grown old (first ++ later)
grown_twice None mid new first later one two = two ∙ ap (λ told. grown told later) one
grown_twice (Some items) mid new first later one two = two ∙ ap (λ told. grown told later) one ∙ ap Some (append_assoc items first later)

-- what was read, with one read more
read_bytes : (link : LinkName) (pieces : List Traffic) (text bytes : List ℕ) → read_on link pieces ≡ record { bytes = text; ended = false }
    → read_on link (pieces ++ Received link bytes ∷ []) ≡ record { bytes = text ++ bytes; ended = false }
read_bytes link pieces text bytes is =
    let before : heard_on link pieces ≡ text = ap (λ (s : Stream). s.bytes) is in
    let going : has_ended link pieces ≡ false = ap (λ (s : Stream). s.ended) is in
    let heard : heard_on link (pieces ++ Received link bytes ∷ []) ≡ text ++ bytes =
    flat_map-append (heard_in link) pieces (Received link bytes ∷ []) ∙ rw (same_self link, before) (ap (λ rest. text ++ rest) (append-nil bytes)) in
    let ended : has_ended link (pieces ++ Received link bytes ∷ []) ≡ false = rw (list_any-append, going) refl in
    rw (heard, ended) refl

read_end : (link : LinkName) (pieces : List Traffic) (text : List ℕ) → read_on link pieces ≡ record { bytes = text; ended = false }
    → read_on link (pieces ++ Ended link ∷ []) ≡ record { bytes = text; ended = true }
read_end link pieces text is =
    let before : heard_on link pieces ≡ text = ap (λ (s : Stream). s.bytes) is in
    let going : has_ended link pieces ≡ false = ap (λ (s : Stream). s.ended) is in
    let heard : heard_on link (pieces ++ Ended link ∷ []) ≡ text = flat_map-append (heard_in link) pieces (Ended link ∷ []) ∙ append-nil (heard_on link pieces) ∙ before in
    let ended : has_ended link (pieces ++ Ended link ∷ []) ≡ true = rw (list_any-append, going, same_self link) refl in
    rw (heard, ended) refl

of_link_more : (link : LinkName) (pieces : List Traffic) (event : Traffic) → list_all (is_read_of link) pieces ≡ true → is_read_of link event ≡ true
    → list_all (is_read_of link) (pieces ++ event ∷ []) ≡ true
of_link_more link pieces event all one = rw (list_all-append, all, one) refl

-- what is read next is the rest of the link's stream
next_bytes : (rest text buf : List ℕ) (n : ℕ) → IsNextOf rest (record { bytes = text; ended = false }) → take n (drop (length text) rest) ≡ take n buf → n ≤ length buf
    → IsNextOf rest (record { bytes = text ++ take n buf; ended = false })
next_bytes rest text buf n so_far next fits =
    let whole : take (length text + n) rest ≡ text ++ take n buf =
    take-add (length text) n rest ∙ ap (λ v. v ++ take n (drop (length text) rest)) so_far.front ∙ ap (λ v. text ++ v) next in
    let size : length (text ++ take n buf) ≡ length text + n = length-append text (take n buf) ∙ ap (λ v. length text + v) (length-take-le n buf fits) in
    record { front = ap (λ v. take v rest) size ∙ whole; whole = λ clash. cc }

next_end : (rest text : List ℕ) → IsNextOf rest (record { bytes = text; ended = false }) → drop (length text) rest ≡ [] → IsNextOf rest (record { bytes = text; ended = true })
next_end rest text so_far none =
    let all : rest ≡ text = sym (take-append-drop (length text) rest) ∙ ap (λ v. take (length text) rest ++ v) none ∙ append-nil (take (length text) rest) ∙ so_far.front in
    record { front = so_far.front; whole = λ _. all }

-- where the next read begins
read_place : (stream : List ℕ) (link : LinkName) (told pieces : List Traffic) (text : List ℕ) → heard_on link pieces ≡ text
    → drop (length (heard_on link (told ++ pieces))) stream ≡ drop (length text) (drop (length (heard_on link told)) stream)
read_place stream link told pieces text heard =
    let both : heard_on link (told ++ pieces) ≡ heard_on link told ++ text = flat_map-append (heard_in link) told pieces ∙ ap (λ v. heard_on link told ++ v) heard in
    ap (λ v. drop (length v) stream) both
    ∙ ap (λ v. drop v stream) (length-append (heard_on link told) text)
    ∙ sym (drop-drop (length text) (length (heard_on link told)) stream)

stream_bytes : (streams : Option (LinkName → List ℕ)) (old mid : Option (List Traffic)) (link : LinkName) (pieces : List Traffic) (text buf : List ℕ) (n : ℕ)
    → mid ≡ grown old pieces → heard_on link pieces ≡ text → IsOfStream streams old link (record { bytes = text; ended = false })
    → GivesFromStream streams mid (GotBytes n) link buf → n ≤ length buf
    → IsOfStream streams old link (record { bytes = text ++ take n buf; ended = false })
stream_bytes None old mid link pieces text buf n grew heard so_far gives fits = tt
stream_bytes (Some streams) None mid link pieces text buf n grew heard so_far gives fits = tt
stream_bytes (Some streams) (Some told) mid link pieces text buf n grew heard so_far gives fits =
    let next : GivesFromStream (Some streams) (Some (told ++ pieces)) (GotBytes n) link buf = subst (λ m. GivesFromStream (Some streams) m (GotBytes n) link buf) grew gives in
    next_bytes (drop (length (heard_on link told)) (streams link)) text buf n so_far (ap (take n) (sym (read_place (streams link) link told pieces text heard)) ∙ next) fits

stream_end : (streams : Option (LinkName → List ℕ)) (old mid : Option (List Traffic)) (link : LinkName) (pieces : List Traffic) (text buf : List ℕ)
    → mid ≡ grown old pieces → heard_on link pieces ≡ text → IsOfStream streams old link (record { bytes = text; ended = false })
    → GivesFromStream streams mid GotEnd link buf
    → IsOfStream streams old link (record { bytes = text; ended = true })
stream_end None old mid link pieces text buf grew heard so_far gives = tt
stream_end (Some streams) None mid link pieces text buf grew heard so_far gives = tt
stream_end (Some streams) (Some told) mid link pieces text buf grew heard so_far gives =
    let next : GivesFromStream (Some streams) (Some (told ++ pieces)) GotEnd link buf = subst (λ m. GivesFromStream (Some streams) m GotEnd link buf) grew gives in
    next_end (drop (length (heard_on link told)) (streams link)) text so_far (sym (read_place (streams link) link told pieces text heard) ∙ next)

-- READINGS

-- what a text shows, of which more may come
shown_so_far : (link : LinkState) (method : Method) (text : List ℕ) (end : ReadEnd) (left : List ℕ) → IsShown (reply method text false) text end left
    → Shows link method (record { bytes = text; ended = false }) end left
shown_so_far link method text (Whole r) left shown = shown
shown_so_far link method text (Broken fault) left shown = (shown.0, refl, shown.1)
shown_so_far link method text Lost left shown = absurd shown
shown_so_far link method text (Failed count) left shown = absurd shown
shown_so_far link method text NoMemory left shown = shown

-- what it shows at its end
shown_at_last : (link : LinkState) (method : Method) (text : List ℕ) (gone : Bool) (end : ReadEnd) → gone ≡ is_gone link (record { bytes = text; ended = true })
    → reply method text false ≡ Ok None → IsShownAtEnd gone (reply method text true) end → Shows link method (record { bytes = text; ended = true }) end []
shown_at_last link method text true end is open_ shown = subst (λ e. Shows link method (record { bytes = text; ended = true }) e []) (sym shown) (sym is, refl)
shown_at_last link method text false (Whole r) is open_ (n, shown) =
    (n, shown, sym (ap (λ k. drop k text) (ends_at_end method text r n open_ shown) ∙ drop-length text))
shown_at_last link method text false (Broken fault) is open_ shown = (shown, sym is, refl)
shown_at_last link method text false Lost is open_ shown = absurd shown
shown_at_last link method text false (Failed count) is open_ shown = absurd shown
shown_at_last link method text false NoMemory is open_ shown = absurd shown

-- one read more, which decides
decided : (link : LinkState) (method : Method) (streams : Option (LinkName → List ℕ)) (old mid new : Option (List Traffic)) (least : ℕ) (gone : Bool) (reader : Reading) (event : Traffic)
    (read : Stream) (end : ReadEnd) (left : List ℕ) → (u : IsUndecided link method streams old mid least gone reader) → new ≡ grown mid (event ∷ []) → is_read_of link.name event ≡ true
    → read_on link.name (u.pieces ++ event ∷ []) ≡ read → Shows link method (behind link read) end left → IsOfStream streams old link.name read → IsOver link method streams old new end left
decided link method streams old mid new least gone reader event read end left u grew one is shows stream = (
  record {
    front = u.pieces;
    last = event ∷ [];
    grew = grown_twice old mid new u.pieces (event ∷ []) u.grew grew;
    of_link = of_link_more link.name u.pieces event u.of_link one;
    undecided = inr (ap (λ (s : Stream). reply method (link.kept ++ s.bytes) s.ended) u.read ∙ u.undecided);
    one = omega arith;
    left = left;
    shows = subst (λ s. Shows link method (behind link s) end left) (sym is) shows;
    of_stream = subst (λ s. IsOfStream streams old link.name s) (sym is) stream;
  },
  refl,
)

-- one read more, which gives nothing
stopped : (link : LinkState) (method : Method) (streams : Option (LinkName → List ℕ)) (old mid new : Option (List Traffic)) (least : ℕ) (gone : Bool) (reader : Reading) (end : ReadEnd)
    → (u : IsUndecided link method streams old mid least gone reader) → new ≡ grown mid []
    → Shows link method (behind link (record { bytes = u.bytes; ended = false })) end [] → IsOver link method streams old new end []
stopped link method streams old mid new least gone reader end u grew shows =
    let all : u.pieces ++ [] ≡ u.pieces = append-nil u.pieces in
    let is : read_on link.name (u.pieces ++ []) ≡ record { bytes = u.bytes; ended = false } = ap (read_on link.name) all ∙ u.read in (
      record {
        front = u.pieces;
        last = [];
        grew = grown_twice old mid new u.pieces [] u.grew grew;
        of_link = ap (list_all (is_read_of link.name)) all ∙ u.of_link;
        undecided = inr (ap (λ (s : Stream). reply method (link.kept ++ s.bytes) s.ended) u.read ∙ u.undecided);
        one = omega arith;
        left = [];
        shows = subst (λ s. Shows link method (behind link s) end []) (sym is) shows;
        of_stream = subst (λ s. IsOfStream streams old link.name s) (sym is) u.of_stream;
      },
      refl,
    )

pub failed_piece : (link : LinkState) (method : Method) (streams : Option (LinkName → List ℕ)) (old mid new : Option (List Traffic)) (least : ℕ) (gone : Bool) (reader : Reading) (count : ℕ)
    → IsUndecided link method streams old mid least gone reader → new ≡ grown mid [] → IsOver link method streams old new (Failed count) []
failed_piece link method streams old mid new least gone reader count u grew = stopped link method streams old mid new least gone reader (Failed count) u grew (u.undecided, refl)

pub spent_piece : (link : LinkState) (method : Method) (streams : Option (LinkName → List ℕ)) (old mid new : Option (List Traffic)) (least : ℕ) (gone : Bool) (reader : Reading)
    → IsUndecided link method streams old mid least gone reader → new ≡ grown mid [] → IsOver link method streams old new NoMemory []
spent_piece link method streams old mid new least gone reader u grew = stopped link method streams old mid new least gone reader NoMemory u grew refl

-- behind a byte nothing is gone
some_byte : (link : LinkState) (text piece : List ℕ) → 1 ≤ length piece → false ≡ is_gone link (record { bytes = text ++ piece; ended = true })
some_byte link [] [] some = absurd (omega (arith, some))
some_byte link [] (b ∷ piece) some = grind (arith, nat_tests)
some_byte link (b ∷ text) piece some = grind (arith, nat_tests)

-- a piece that was fed
pub fed_piece : (link : LinkState) (method : Method) (streams : Option (LinkName → List ℕ)) (old mid new : Option (List Traffic)) (least n : ℕ) (gone : Bool) (buf left : List ℕ) (reader later : Reading) (answered : Option ReadEnd)
    → IsUndecided link method streams old mid least gone reader → new ≡ grown mid (Received link.name (take n buf) ∷ []) → GivesFromStream streams mid (GotBytes n) link.name buf
    → 1 ≤ n → length buf ≡ n
    → ((m : Method) (text : List ℕ) → IsFed reader m text → IsFedAnswer (reply m (text ++ buf) false) (text ++ buf) answered left)
    → ((m : Method) (text : List ℕ) → IsFed reader m text → answered ≡ None → IsFed later m (text ++ buf))
    → IsPieceOf link method streams old new least gone later (piece_of answered) left
fed_piece link method streams old mid new least n gone buf left reader later answered u grew gives some fits answer goes_on =
    by_piece answered (answer method (link.kept ++ u.bytes) u.fed) (goes_on method (link.kept ++ u.bytes) u.fed)
  where
    all : take n buf ≡ buf
    all = ap (λ (k : ℕ). take k buf) (sym fits) ∙ take_all (length buf) buf (omega arith)

    came : new ≡ grown mid (Received link.name buf ∷ [])
    came = grew ∙ ap (λ (bytes : List ℕ). grown mid (Received link.name bytes ∷ [])) all

    joined : (link.kept ++ u.bytes) ++ buf ≡ link.kept ++ (u.bytes ++ buf)
    joined = append_assoc link.kept u.bytes buf

    size : length (u.bytes ++ buf) ≡ length u.bytes + length buf
    size = length-append u.bytes buf

    stream : IsOfStream streams old link.name (record { bytes = u.bytes ++ buf; ended = false })
    stream = subst (λ (bytes : List ℕ). IsOfStream streams old link.name (record { bytes = u.bytes ++ bytes; ended = false })) all
        (stream_bytes streams old mid link.name u.pieces u.bytes buf n u.grew (ap (λ (s : Stream). s.bytes) u.read) u.of_stream gives (omega (arith, fits)))

    by_piece : (p : Option ReadEnd) → IsFedAnswer (reply method ((link.kept ++ u.bytes) ++ buf) false) ((link.kept ++ u.bytes) ++ buf) p left
        → (p ≡ None → IsFed later method ((link.kept ++ u.bytes) ++ buf)) → IsPieceOf link method streams old new least gone later (piece_of p) left
    by_piece None shown fed =
        let long = u.long in (
          record {
            pieces = u.pieces ++ Received link.name buf ∷ [];
            bytes = u.bytes ++ buf;
            grew = grown_twice old mid new u.pieces (Received link.name buf ∷ []) u.grew came;
            of_link = of_link_more link.name u.pieces (Received link.name buf) u.of_link (same_self link.name);
            read = read_bytes link.name u.pieces u.bytes buf u.read;
            fed = subst (IsFed later method) joined (fed refl);
            undecided = subst (λ text. reply method text false ≡ Ok None) joined shown.0;
            gone_here = some_byte link (link.kept ++ u.bytes) buf (omega (arith, some, fits)) ∙ ap (λ (text : List ℕ). is_gone link (record { bytes = text; ended = true })) joined;
            long = omega (arith, size, long, some, fits);
            of_stream = stream;
          },
          shown.1,
        )
    by_piece (Some end) shown fed =
        decided link method streams old mid new least gone reader (Received link.name buf) (record { bytes = u.bytes ++ buf; ended = false }) end left u came (same_self link.name)
        (read_bytes link.name u.pieces u.bytes buf u.read)
        (subst (λ text. Shows link method (record { bytes = text; ended = false }) end left) joined (shown_so_far link method ((link.kept ++ u.bytes) ++ buf) end left shown)) stream

-- the link's end
pub end_piece : (link : LinkState) (method : Method) (streams : Option (LinkName → List ℕ)) (old mid new : Option (List Traffic)) (least : ℕ) (gone : Bool) (buf : List ℕ) (reader : Reading)
    → IsUndecided link method streams old mid least gone reader → new ≡ grown mid (Ended link.name ∷ []) → GivesFromStream streams mid GotEnd link.name buf
    → IsEnded link method streams old new gone reader
end_piece link method streams old mid new least gone buf reader u grew gives = record {
  text = link.kept ++ u.bytes;
  fed = u.fed;
  over = λ end shown.
      decided link method streams old mid new least gone reader (Ended link.name) (record { bytes = u.bytes; ended = true }) end [] u grew (same_self link.name)
      (read_end link.name u.pieces u.bytes u.read) (shown_at_last link method (link.kept ++ u.bytes) gone end u.gone_here u.undecided shown)
      (stream_end streams old mid link.name u.pieces u.bytes buf u.grew (ap (λ (s : Stream). s.bytes) u.read) u.of_stream gives);
}

-- BEFORE THE FIRST READ

stream_start : (streams : Option (LinkName → List ℕ)) (old : Option (List Traffic)) (link : LinkName) → IsOfStream streams old link (record { bytes = []; ended = false })
stream_start None old link = tt
stream_start (Some streams) None link = tt
stream_start (Some streams) (Some told) link = record { front = refl; whole = λ clash. cc }

-- what was kept alone shows the answer, or there is no memory to look at it
unread_over : (link : LinkState) (method : Method) (streams : Option (LinkName → List ℕ)) (told : Option (List Traffic)) (end : ReadEnd) (left : List ℕ)
    → Shows link method (record { bytes = link.kept; ended = false }) end left → IsOver link method streams told told end left
unread_over link method streams told end left shows = (
  record {
    front = [];
    last = [];
    grew = grown_nothing told;
    of_link = refl;
    undecided = inl refl;
    one = omega arith;
    left = left;
    shows = subst (λ text. Shows link method (record { bytes = text; ended = false }) end left) (sym (append-nil link.kept)) shows;
    of_stream = stream_start streams told link.name;
  },
  refl,
)

pub kept_shows : (link : LinkState) (method : Method) (streams : Option (LinkName → List ℕ)) (told : Option (List Traffic)) (reader : Reading) (end : ReadEnd) (left : List ℕ)
    → IsFed reader method [] → ((m : Method) (text : List ℕ) → IsFed reader m text → IsFedAnswer (reply m (text ++ link.kept) false) (text ++ link.kept) (Some end) left)
    → IsOver link method streams told told end left
kept_shows link method streams told reader end left fed answer = unread_over link method streams told end left (shown_so_far link method link.kept end left (answer method [] fed))

pub kept_open : (link : LinkState) (method : Method) (streams : Option (LinkName → List ℕ)) (told : Option (List Traffic)) (gone : Bool) (reader later : Reading) (answered : Option ReadEnd) (left : List ℕ)
    → IsFed reader method [] → answered ≡ None → gone ≡ is_gone link (record { bytes = link.kept; ended = true })
    → ((m : Method) (text : List ℕ) → IsFed reader m text → IsFedAnswer (reply m (text ++ link.kept) false) (text ++ link.kept) answered left)
    → ((m : Method) (text : List ℕ) → IsFed reader m text → answered ≡ None → IsFed later m (text ++ link.kept))
    → IsUndecided link method streams told told 0 gone later × (left ≡ [])
kept_open link method streams told gone reader later answered left fed is gone_here answer goes_on =
    let shown : IsFedAnswer (reply method link.kept false) link.kept None left = subst (λ p. IsFedAnswer (reply method link.kept false) link.kept p left) is (answer method [] fed) in
    let all : link.kept ≡ link.kept ++ [] = sym (append-nil link.kept) in (
      record {
        pieces = [];
        bytes = [];
        grew = grown_nothing told;
        of_link = refl;
        read = refl;
        fed = subst (IsFed later method) all (goes_on method [] fed is);
        undecided = subst (λ text. reply method text false ≡ Ok None) all shown.0;
        gone_here = gone_here ∙ ap (λ (text : List ℕ). is_gone link (record { bytes = text; ended = true })) all;
        long = omega arith;
        of_stream = stream_start streams told link.name;
      },
      shown.1,
    )

-- nothing was read for want of memory
pub nothing_read : (link : LinkState) (method : Method) (streams : Option (LinkName → List ℕ)) (told : Option (List Traffic)) → IsOver link method streams told told NoMemory []
nothing_read link method streams told = unread_over link method streams told NoMemory [] refl

-- a reading that did not fail has no fault
pub no_read_fault : (sticks : Bool) (before now : ℕ) (end : ReadEnd) → IsNoReadFault end → IsReadFault sticks before now end
no_read_fault sticks before now (Whole r) none = tt
no_read_fault sticks before now (Broken fault) none = tt
no_read_fault sticks before now Lost none = tt
no_read_fault sticks before now (Failed count) none = absurd none
no_read_fault sticks before now NoMemory none = tt

pub no_piece_fault : (sticks : Bool) (before now : ℕ) (answered : Option ReadEnd) → IfSome answered IsNoReadFault → IsPieceFault sticks before now (piece_of answered)
no_piece_fault sticks before now None none = tt
no_piece_fault sticks before now (Some end) none = no_read_fault sticks before now end none

pub no_piece_read : (answered : Option ReadEnd) → IfSome answered IsNoReadFault → IsNoPieceFault (piece_of answered)
no_piece_read None none = tt
no_piece_read (Some end) none = none

-- the same reading
abbrev pub state_of : LinkName → List ℕ → Bool → LinkState
state_of name kept has_replied = record { name = name; kept = kept; has_replied = has_replied }

pub over_same : (link other : LinkState) (method : Method) (streams : Option (LinkName → List ℕ)) (old new : Option (List Traffic)) (end : ReadEnd) (left : List ℕ)
    → other ≡ link → IsOver other method streams old new end left → IsOver link method streams old new end left
over_same link other method streams old new end left same over = subst (λ l. IsOver l method streams old new end left) same over

-- a whole reply ends with the bytes of the piece that are used, which are some of it
pub whole_piece : (told : Result (Option (Reply × ℕ)) WireFault) (text piece : List ℕ) (used taken : ℕ) (at : At) (r : Reply) → at ≡ WholeAt r
    → taken ≡ min used (length piece) → IsAnswerAt told (length text) (length piece) used at
    → (n : ℕ) × (told ≡ Ok (Some (r, n))) × (drop taken piece ≡ drop n (text ++ piece))
whole_piece told text piece used taken at r is cap answer =
    let whole = subst (λ (a : At). IsAnswerAt told (length text) (length piece) used a) is answer in
    let within = whole.1 in
    let same : taken ≡ used = omega (arith, cap, within) in
    (length text + used, whole.0, ap (λ (n : ℕ). drop n piece) same ∙ sym (drop-append-add text piece used))

-- a fault leaves nothing of the piece
pub fault_piece : (told : Result (Option (Reply × ℕ)) WireFault) (before used : ℕ) (piece : List ℕ) (at : At) (fault : WireFault) → at ≡ FaultAt fault
    → IsAnswerAt told before (length piece) used at → (told ≡ Err fault) × (drop (length piece) piece ≡ [])
fault_piece told before used piece at fault is answer =
    (subst (λ (a : At). IsAnswerAt told before (length piece) used a) is answer, drop-length piece)

pub more_fed : (at : At) → at ≡ MoreAt → IsMoreAt at
more_fed at is = subst IsMoreAt (sym is) tt

-- so many reads decide
pub all_read : (link : LinkState) (method : Method) (streams : Option (LinkName → List ℕ)) (old new : Option (List Traffic)) (gone : Bool) (reader : Reading) (least : ℕ)
    → 1114113 ≤ least → ¬ IsUndecided link method streams old new least gone reader
all_read link method streams old new gone reader least many u =
    let short = undecided_short method (link.kept ++ u.bytes) u.undecided in
    let size = length-append link.kept u.bytes in
    let long = u.long in
    absurd (omega (arith, short, size, long, many))
