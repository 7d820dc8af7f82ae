-- A session has at most 2,048 requests.
use Rattle.std.proofs.Common.{◌≡◌, ℕ, ◌+◌, ◌<◌, ◌≤◌, Bool, true, false, List, [], ◌∷◌, ◌++◌, length, Option, Some, None, Result, Ok, Err, refl, sym, ap, ◌∙◌, subst, arith, length-append, nat_lt, if◌then◌else◌}
use Rattle.std.proofs.lemmas.Bool.{ltb-true}
use Rattle.std.specs.List.{cons_option}
use Rattle.std.proofs.lemmas.List.{append-nil}
use Rattle.std.proofs.lemmas.List.Elements.{filter_map-append}
use Rattle.session_text.specs.declared.line.Line.{Line}
use Rattle.session_text.specs.declared.line.Line.TheVariants.{Passed, Header, Workers, Default, Request as Requested, Link, Token, Answer as Answered}
use Rattle.session_text.specs.declared.line.LineFault.{LineFault}
use Rattle.session_text.specs.declared.session.Session.{Session}
use Rattle.session_text.specs.declared.session.SessionFault.{SessionFault}
use Rattle.session_text.specs.declared.session.SessionFault.TheVariants.{BadLine, TooMany}
use Rattle.session_text.specs.declared.session.What.TheVariants.{Requests as TooManyRequests}
use Rattle.session_text.specs.Cuts.{lines}
use Rattle.session_text.specs.Forms.{line}
use Rattle.session_text.specs.Sessions.{after, fault, is_none_before, requests_in, right_lines, said_request, session, session_of, unless, ◌>=>◌}

abbrev IsShort : List Line → Type 0
IsShort ls = length (requests_in ls) ≤ 2048

-- a line that is no request adds none
same_requests : (before : List Line) (l : Line) → said_request l ≡ None → requests_in (before ++ l ∷ []) ≡ requests_in before
same_requests before l none = filter_map-append said_request before (l ∷ []) ∙ (ap (λ o. requests_in before ++ cons_option o []) none ∙ append-nil (requests_in before))

unless_ok : (o : Option SessionFault) (ls more : List Line) → unless o ls ≡ Ok more → (o ≡ None) × (ls ≡ more)
unless_ok None ls more e = (refl, cc)
unless_ok (Some f) ls more e = cc

-- a right request has a place among 2,048
right_request : (none : Bool) (k number : ℕ)
    → (if none then Some (BadLine number) else if nat_lt k 2048 then None else Some (TooMany TooManyRequests 2049)) ≡ None → k < 2048
right_request none k number e = at none (nat_lt k 2048) refl e
  where
    at : (a b : Bool) → nat_lt k 2048 ≡ b → (if a then Some (BadLine number) else if b then None else Some (TooMany TooManyRequests 2049)) ≡ None → k < 2048
    at true b is f = cc
    at false true is f = ltb-true k 2048 is
    at false false is f = cc

added : (number : ℕ) (before ls : List Line) (l : Line) → IsShort before → unless (fault number before l) (before ++ l ∷ []) ≡ Ok ls → IsShort ls
added number before ls (Requested r) short e =
    let parts = unless_ok (fault number before (Requested r)) (before ++ Requested r ∷ []) ls e in
    let room : length (requests_in before) < 2048 = right_request (is_none_before before) (length (requests_in before)) number parts.0 in
    let more : requests_in (before ++ Requested r ∷ []) ≡ requests_in before ++ r ∷ [] = filter_map-append said_request before (Requested r ∷ []) in
    subst IsShort parts.1 (omega (arith, room, ap length more, length-append (requests_in before) (r ∷ [])))
added number before ls Passed short e = let parts = unless_ok (fault number before Passed) (before ++ Passed ∷ []) ls e in subst IsShort parts.1 (subst (λ rs. length rs ≤ 2048) (sym (same_requests before Passed refl)) short)
added number before ls Header short e = let parts = unless_ok (fault number before Header) (before ++ Header ∷ []) ls e in subst IsShort parts.1 (subst (λ rs. length rs ≤ 2048) (sym (same_requests before Header refl)) short)
added number before ls (Workers n) short e = let parts = unless_ok (fault number before (Workers n)) (before ++ Workers n ∷ []) ls e in subst IsShort parts.1 (subst (λ rs. length rs ≤ 2048) (sym (same_requests before (Workers n) refl)) short)
added number before ls (Default o) short e = let parts = unless_ok (fault number before (Default o)) (before ++ Default o ∷ []) ls e in subst IsShort parts.1 (subst (λ rs. length rs ≤ 2048) (sym (same_requests before (Default o) refl)) short)
added number before ls (Link bytes) short e = let parts = unless_ok (fault number before (Link bytes)) (before ++ Link bytes ∷ []) ls e in subst IsShort parts.1 (subst (λ rs. length rs ≤ 2048) (sym (same_requests before (Link bytes) refl)) short)
added number before ls (Token step) short e = let parts = unless_ok (fault number before (Token step)) (before ++ Token step ∷ []) ls e in subst IsShort parts.1 (subst (λ rs. length rs ≤ 2048) (sym (same_requests before (Token step) refl)) short)
added number before ls (Answered space gift) short e = let parts = unless_ok (fault number before (Answered space gift)) (before ++ Answered space gift ∷ []) ls e in subst IsShort parts.1 (subst (λ rs. length rs ≤ 2048) (sym (same_requests before (Answered space gift) refl)) short)

next_short : (number : ℕ) (before ls : List Line) (read : Result Line LineFault) → IsShort before → after number before read ≡ Ok ls → IsShort ls
next_short number before ls (Err f) short e = cc
next_short number before ls (Ok Passed) short e = let same : before ≡ ls = cc e in subst IsShort same short
next_short number before ls (Ok l) short e = added number before ls l short e

bound : {A B : Type 0} (x : Result A SessionFault) (f : A → Result B SessionFault) (b : B) → (x >=> f) ≡ Ok b → (a : A) × (x ≡ Ok a) × (f a ≡ Ok b)
bound (Ok a) f b e = (a, refl, e)
bound (Err fault) f b e = cc

right_short : (number : ℕ) (before : List Line) (texts : List (List ℕ)) (ls : List Line) → IsShort before → right_lines number before texts ≡ Ok ls → IsShort ls
right_short number before [] ls short e = at (is_none_before before) e
  where
    at : (b : Bool) → (if b then Err (BadLine number) else Ok before) ≡ Ok ls → IsShort ls
    at true f = cc
    at false f = let same : before ≡ ls = cc in subst IsShort same short
right_short number before (text ∷ texts) ls short e =
    let there = bound (after number before (line text)) (λ more. right_lines (number + 1) more texts) ls e in
    right_short (number + 1) there.0 texts ls (next_short number before there.0 (line text) short there.1) there.2

pub few_requests : (text : List ℕ) (asked : Session) → session text ≡ Ok asked → length asked.roster.requests ≤ 2048
few_requests text asked e =
    let there = bound (right_lines 1 [] (lines text)) (λ ls. Ok (session_of ls)) asked e in
    let same : session_of there.0 ≡ asked = cc in
    subst (λ (s : Session). length s.roster.requests ≤ 2048) same (right_short 1 [] (lines text) there.0 (omega arith) there.1)
