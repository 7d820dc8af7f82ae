-- A reply that is shown carries the values of its final head.
use Rattle.std.proofs.Common.{◌≡◌, ℕ, suc, zero, ◌+◌, ◌-◌, ◌==◌, ◌&&◌, Bool, true, false, cond, List, [], ◌∷◌, length, take, drop, Option, Some, None, Ok, refl, sym, ap, subst, arith, codes}
use Rattle.std.specs.Prelude.{nat_lt, nat_le, ⊤}
use Rattle.std.proofs.lemmas.Bool.Decides.{nat_tests}
use Rattle.spaces.specs.declared.roster.Method.{Method}
use Rattle.wire_head.specs.declared.chunked_body.ChunkedBody.{ChunkedBody}
use Rattle.wire_head.specs.declared.chunked_body.ChunkedBody.TheVariants.{Ends, Wrong, Part}
use Rattle.wire_head.specs.declared.response_head.ReplyHead.{ReplyHead}
use Rattle.wire_head.specs.declared.reply.Reply.{Reply}
use Rattle.wire_head.specs.declared.reply.WireFault.TheVariants.{HeadTooLong, BadFraming, BodyTooLong}
use Rattle.wire_head.specs.declared.framing.Framing.{Framing}
use Rattle.wire_head.specs.declared.framing.Framing.TheVariants.{Length, Chunked, ToEnd, Bad, TooLong}
use Rattle.wire_head.specs.declared.progress.Progress.{Progress}
use Rattle.wire_head.specs.declared.progress.Progress.TheVariants.{Open, Whole, Fault}
use Rattle.wire_head.specs.Lines.{head_len}
use Rattle.wire_head.specs.ChunkedBodies.{chunks}
use Rattle.wire_head.specs.HeaderFields.{values_of}
use Rattle.wire_head.specs.ResponseHeads.{reply_head}
use Rattle.wire_head.specs.Replies.{body_limit, is_challenge, is_interim, is_too_long, front_len, framing, reply_of, by_chunks, body, by_head, by_front, first_head, heads, progress, answer}
use Rattle.wire_head.specs.FinalHeads.{unless_interim, final_from, final_head, IsShown, Carries, values_fit}

-- the head's reply, with any framing and body
abbrev IsOf : Option ReplyHead → Reply → Type 0
IsOf final r = (h : ReplyHead) × (f : Framing) × (n : ℕ) × (final ≡ Some h) × (r ≡ reply_of f h n)

abbrev AreOf : Option ReplyHead → Progress → Type 0
AreOf final (Open None) = ⊤
AreOf final (Open (Some r)) = IsOf final r
AreOf final (Whole r n) = IsOf final r
AreOf final (Fault fault) = ⊤

chunks_are_of : (b : ChunkedBody) (h : ReplyHead) (at len : ℕ) → AreOf (Some h) (by_chunks b h at len)
chunks_are_of (Ends n bytes) h at len = by_test (nat_lt body_limit n)
  where
    by_test : (x : Bool) → AreOf (Some h) (cond x (Fault BodyTooLong) (Whole (reply_of Chunked h bytes) (at + n)))
    by_test true = tt
    by_test false = (h, Chunked, bytes, refl, refl)
chunks_are_of (Wrong k) h at len = by_test (nat_lt body_limit k)
  where
    by_test : (x : Bool) → AreOf (Some h) (cond x (Fault BodyTooLong) (Fault BadFraming))
    by_test true = tt
    by_test false = tt
chunks_are_of Part h at len = by_test (nat_lt body_limit len)
  where
    by_test : (x : Bool) → AreOf (Some h) (cond x (Fault BodyTooLong) (Open None))
    by_test true = tt
    by_test false = tt

body_is_of : (f : Framing) (h : ReplyHead) (at : ℕ) (text : List ℕ) → AreOf (Some h) (body f h at text)
body_is_of Bad h at text = tt
body_is_of TooLong h at text = tt
body_is_of (Length n) h at text = by_test (nat_le n (length text))
  where
    by_test : (x : Bool) → AreOf (Some h) (cond x (Whole (reply_of (Length n) h n) (at + n)) (Open None))
    by_test true = (h, Length n, n, refl, refl)
    by_test false = tt
body_is_of ToEnd h at text = by_test (nat_lt body_limit (length text))
  where
    by_test : (x : Bool) → AreOf (Some h) (cond x (Fault BodyTooLong) (Open (Some (reply_of ToEnd h (length text)))))
    by_test true = tt
    by_test false = (h, ToEnd, length text, refl, refl)
body_is_of Chunked h at text = chunks_are_of (chunks 0 text) h at (length text)

head_is_of : (method : Method) (at n : ℕ) (text : List ℕ) (read : Option ReplyHead) (next : Progress) (later : Option ReplyHead)
    → AreOf later next → AreOf (unless_interim read later) (by_head method at n text read next)
head_is_of method at n text None next later are = tt
head_is_of method at n text (Some h) next later are = by_test (is_interim h.code)
  where
    by_test : (x : Bool) → AreOf (cond x later (Some h)) (cond x next (body (framing method h) h (at + n) (drop n text)))
    by_test true = are
    by_test false = body_is_of (framing method h) h (at + n) (drop n text)

front_is_of : (method : Method) (at : ℕ) (front : Option ℕ) (text : List ℕ) (next : Progress) (later : Option ReplyHead)
    → AreOf later next
    → AreOf (unless_interim (reply_head (take (front_len front text) text)) later) (by_front method at front text next)
front_is_of method at None text next later are = tt
front_is_of method at (Some n) text next later are = head_is_of method at n text (reply_head (take n text)) next later are

first_is_of : (method : Method) (at : ℕ) (text : List ℕ) (next : Progress) (later : Option ReplyHead) → AreOf later next
    → AreOf (unless_interim (reply_head (take (front_len (head_len text) text) text)) later) (first_head method at text next)
first_is_of method at text next later are = by_test (is_too_long at (take (front_len (head_len text) text) text))
  where
    by_test : (x : Bool) → AreOf (unless_interim (reply_head (take (front_len (head_len text) text) text)) later)
        (cond x (Fault HeadTooLong) (by_front method at (head_len text) text next))
    by_test true = tt
    by_test false = front_is_of method at (head_len text) text next later are

heads_are_of : (method : Method) (at skip : ℕ) (text : List ℕ) → AreOf (final_from skip text) (heads method at skip text)
heads_are_of method at skip [] = tt
heads_are_of method at (suc skip) (b ∷ text) = heads_are_of method (at + 1) skip text
heads_are_of method at zero (b ∷ text) =
    first_is_of method at (b ∷ text) (heads method (at + 1) (front_len (head_len (b ∷ text)) (b ∷ text) - 1) text)
    (final_from (front_len (head_len (b ∷ text)) (b ∷ text) - 1) text)
    (heads_are_of method (at + 1) (front_len (head_len (b ∷ text)) (b ∷ text) - 1) text)

answer_is_of : (final : Option ReplyHead) (ended : Bool) (len : ℕ) (p : Progress) (r : Reply) (n : ℕ) → AreOf final p
    → answer ended len p ≡ Ok (Some (r, n)) → IsOf final r
answer_is_of final false len (Open (Some s)) r n are e = cc e
answer_is_of final false len (Open None) r n are e = cc e
answer_is_of final true len (Open None) r n are e = cc e
answer_is_of final true len (Open (Some s)) r n are e =
    let pair : (s, len) ≡ (r, n) = cc e in subst (IsOf final) (ap (λ (p : Reply × ℕ). p.0) pair) are
answer_is_of final ended len (Whole s k) r n are e =
    let pair : (s, k) ≡ (r, n) = cc e in subst (IsOf final) (ap (λ (p : Reply × ℕ). p.0) pair) are
answer_is_of final ended len (Fault fault) r n are e = cc e

shown_is_of : (text : List ℕ) (r : Reply) → IsShown text r → IsOf (final_head text) r
shown_is_of text r shown =
    answer_is_of (final_head text) shown.1 (length text) (progress shown.0 text) r shown.2 (heads_are_of shown.0 0 0 text) shown.3

-- what the head's reply carries

by_code : (code : ℕ) (A B : List (List ℕ)) → code ≡ 401 → cond (code == 401) A (cond (code == 407) B []) ≡ A
by_code code A B is = grind (arith, nat_tests)

by_other_code : (code : ℕ) (A B : List (List ℕ)) → code ≡ 407 → cond (code == 401) A (cond (code == 407) B []) ≡ B
by_other_code code A B is = grind (arith, nat_tests)

by_no_challenge : (code : ℕ) (A B : List (List ℕ)) → is_challenge code ≡ false → cond (code == 401) A (cond (code == 407) B []) ≡ []
by_no_challenge code A B other = grind (arith, nat_tests)

of_carries : (h : ReplyHead) (f : Framing) (n : ℕ) → Carries h (reply_of f h n)
of_carries h f n = record {
  same_code = refl;
  of_server = by_code h.code _ _;
  of_proxy = by_other_code h.code _ _;
  told_by_server = ap (λ (x : Bool). cond x [] (values_of (codes "Authentication-Info") h.fields));
  told_by_proxy = ap (λ (x : Bool). cond x [] (values_of (codes "Proxy-Authentication-Info") h.fields));
}

pub shown_carries : (text : List ℕ) (r : Reply) → IsShown text r → (h : ReplyHead) × (final_head text ≡ Some h) × Carries h r
shown_carries text r shown =
    let is = shown_is_of text r shown in
    (is.0, is.3, subst (Carries is.0) (sym is.4) (of_carries is.0 is.1 is.2))

-- a challenge has no infos

of_challenge : (h : ReplyHead) (f : Framing) (n : ℕ) → is_challenge h.code ≡ true
    → ((reply_of f h n).server_info ≡ []) × ((reply_of f h n).proxy_info ≡ [])
of_challenge h f n is = (
  ap (λ (x : Bool). cond x [] (values_of (codes "Authentication-Info") h.fields)) is,
  ap (λ (x : Bool). cond x [] (values_of (codes "Proxy-Authentication-Info") h.fields)) is,
)

pub challenge_no_infos : (text : List ℕ) (r : Reply) → IsShown text r → is_challenge r.code ≡ true
    → (r.server_info ≡ []) × (r.proxy_info ≡ [])
challenge_no_infos text r shown =
    let is = shown_is_of text r shown in
    rw is.4 (of_challenge is.0 is.1 is.2)

-- another reply has no challenges

pub other_no_challenges : (text : List ℕ) (r : Reply) → IsShown text r → is_challenge r.code ≡ false → r.fields ≡ []
other_no_challenges text r shown =
    let is = shown_is_of text r shown in
    rw is.4 (by_no_challenge is.0.code _ _)

-- the two together, as a test

by_lists : (challenge : Bool) (fields server proxy : List (List ℕ))
    → (challenge ≡ true → (server ≡ []) × (proxy ≡ [])) → (challenge ≡ false → fields ≡ [])
    → cond challenge (length server == 0 && length proxy == 0) (length fields == 0) ≡ true
by_lists true fields server proxy none others =
    let empty = none refl in rw (empty.0, empty.1) refl
by_lists false fields server proxy none others = rw (others refl) refl

pub shown_values_fit : (text : List ℕ) (r : Reply) → IsShown text r → values_fit r ≡ true
shown_values_fit text r shown =
    by_lists (is_challenge r.code) r.fields r.server_info r.proxy_info (challenge_no_infos text r shown) (other_no_challenges text r shown)
