-- A quoted string in front of a text.
use Rattle.std.proofs.Common.{◌≡◌, ℕ, suc, ◌+◌, ◌<◌, ◌≤◌, ◌==◌, ◌&&◌, Bool, true, false, cond, List, [], ◌∷◌, ◌++◌, length, take, drop, Option, Some, None, Result, Ok, Err, refl, sym, ap, ◌∙◌, subst, arith, length-append}
use Rattle.std.proofs.lemmas.Bool.{false≢true, eqb-true, eq-eqb}
use Rattle.std.proofs.lemmas.List.{append-nil}
use Rattle.std.proofs.Math.Seq.{take-append_seam, drop-append_seam}
use Rattle.auth_text.specs.declared.quoted.QuoteFault.{QuoteFault}
use Rattle.auth_text.specs.Quoted.{behind, closing, quoted, if_closed}
use Rattle.field_lists.specs.Blanks.{is_blank, keep_unless_blank, trim_end}
use Rattle.challenge_tokens.specs.declared.piece.Quoting.{Quoting}
use Rattle.challenge_tokens.specs.declared.piece.Quoting.TheVariants.{Outside, Inside, Escaped}
use Rattle.challenge_tokens.specs.Forms.{after_byte, value_of, whole}
use Rattle.challenge_tokens.specs.Pieces.{is_outside}
use Rattle.challenge_tokens.specs.Cutting.{piece_len}
use Rattle.challenge_tokens.specs.Front.{front, sized, if_empty, blank_piece, then_blank, if_read, starts}
use Rattle.challenge_tokens.proofs.EdgeLemmas.{Passes, open_quote, keep_solid}
use Rattle.challenge_tokens.proofs.FrontLemmas.{last_keeps, front_keeps}
use Rattle.challenge_tokens.proofs.ReadLemmas.{sized_blank}

-- where the next byte lies
abbrev within : Bool → Quoting
within false = Inside
within true = Escaped

-- ---- bytes in a quoted string

uncut : (t u : Bool) (k m r : ℕ) → u ≡ false → k ≡ m + r → cond (t && u) 0 (1 + k) ≡ suc m + r
uncut t true k m r off e = absurd (false≢true (sym off))
uncut true false k m r off e = omega (arith, e)
uncut false false k m r off e = omega (arith, e)

inner : (e : Bool) → is_outside (within e) ≡ false
inner false = refl
inner true = refl

pass_byte : (e d : Bool) (b : ℕ) (x : List ℕ) (o : Quoting) → after_byte (within e) b ≡ within d → Passes (within d) x o → Passes (within e) (b ∷ x) o
pass_byte e d b x o next passes rest =
    uncut (b == 44) (is_outside (within e)) (piece_len (after_byte (within e) b) (x ++ rest)) (length x) (piece_len o rest) (inner e)
    (ap (λ (q : Quoting). piece_len q (x ++ rest)) next ∙ passes rest)

-- the bytes up to and with the closing quote
record Closes (e : Bool) (bytes value : List ℕ) (n : ℕ) : Type 0 where
  inside : List ℕ
  rest : List ℕ
  split : bytes ≡ (inside ++ 34 ∷ []) ++ rest
  len : length (inside ++ 34 ∷ []) ≡ n
  again : (more : List ℕ) → closing e ((inside ++ 34 ∷ []) ++ more) ≡ Some (value, n)
  passes : Passes (within e) (inside ++ 34 ∷ []) Outside

-- no quote closes it
record Open (e : Bool) (bytes : List ℕ) : Type 0 where
  trimmed : closing e (trim_end bytes) ≡ None
  all : piece_len (within e) bytes ≡ length bytes + 0

abbrev Found : Bool → List ℕ → Option (List ℕ × ℕ) → Type 0
Found e bytes None = Open e bytes
Found e bytes (Some x) = Closes e bytes x.0 x.1

-- one byte more: from the state d behind it to the state e before it
record Leads (e d : Bool) (b : ℕ) (front : List ℕ) : Type 0 where
  next : after_byte (within e) b ≡ within d
  reads : (more : List ℕ) → closing e (b ∷ more) ≡ behind front 1 (closing d more)

no_closing : (e : Bool) → closing e [] ≡ None
no_closing false = refl
no_closing true = refl

keep_none_by : (e : Bool) (b : ℕ) (u : Bool) → closing e (b ∷ []) ≡ None → closing e (cond u [] (b ∷ [])) ≡ None
keep_none_by e b true none = no_closing e
keep_none_by e b false none = none

keep_none : (e : Bool) (b : ℕ) (y : List ℕ) → closing e (b ∷ y) ≡ None → closing e (keep_unless_blank b y) ≡ None
keep_none e b [] none = keep_none_by e b (is_blank b) none
keep_none e b (c ∷ y) none = none

more_found : (e d : Bool) (b : ℕ) (front bytes : List ℕ) (r : Option (List ℕ × ℕ)) → Leads e d b front → Found d bytes r
    → Found e (b ∷ bytes) (behind front 1 r)
more_found e d b front bytes None leads found = record {
  trimmed = keep_none e b (trim_end bytes) (leads.reads (trim_end bytes) ∙ ap (behind front 1) found.trimmed);
  all =
      uncut (b == 44) (is_outside (within e)) (piece_len (after_byte (within e) b) bytes) (length bytes) 0 (inner e)
      (ap (λ (q : Quoting). piece_len q bytes) leads.next ∙ found.all);
}
more_found e d b front bytes (Some x) leads found = record {
  inside = b ∷ found.inside;
  rest = found.rest;
  split = ap (λ t. b ∷ t) found.split;
  len = omega (arith, found.len);
  again = λ more. leads.reads ((found.inside ++ 34 ∷ []) ++ more) ∙ ap (behind front 1) (found.again more);
  passes = pass_byte e d b (found.inside ++ 34 ∷ []) Outside leads.next found.passes;
}

close_quote : Passes Inside (34 ∷ []) Outside
close_quote rest = omega arith

quote_here : (b : ℕ) (bytes : List ℕ) → b ≡ 34 → Closes false (b ∷ bytes) [] 1
quote_here b bytes is = record {
  inside = [];
  rest = bytes;
  split = ap (λ a. a ∷ bytes) is;
  len = refl;
  again = λ more. refl;
  passes = close_quote;
}

found_by : (b : ℕ) (bytes : List ℕ) (s q : Bool) → (b == 92) ≡ s → (b == 34) ≡ q
    → Found true bytes (closing true bytes) → Found false bytes (closing false bytes)
    → Found false (b ∷ bytes) (cond s (behind [] 1 (closing true bytes)) (cond q (Some ([], 1)) (behind (b ∷ []) 1 (closing false bytes))))
found_by b bytes true q slash quote escaped plain =
    more_found false true b [] bytes (closing true bytes) (record { next = rw slash refl; reads = λ more. rw slash refl }) escaped
found_by b bytes false true slash quote escaped plain = quote_here b bytes (eqb-true b 34 quote)
found_by b bytes false false slash quote escaped plain =
    more_found false false b (b ∷ []) bytes (closing false bytes)
    (record { next = rw (slash, quote) refl; reads = λ more. rw (slash, quote) refl }) plain

finds : (bytes : List ℕ) → (Found false bytes (closing false bytes)) × (Found true bytes (closing true bytes))
finds [] = (record { trimmed = refl; all = refl }, record { trimmed = refl; all = refl })
finds (b ∷ bytes) =
    let both = finds bytes in (
      found_by b bytes (b == 92) (b == 34) refl refl both.1 both.0,
      more_found true false b (b ∷ []) bytes (closing false bytes) (record { next = refl; reads = λ more. refl }) both.0,
    )

-- ---- the value

abbrev quote_read : Option (List ℕ × ℕ) → List ℕ → Option (List ℕ × ℕ)
quote_read None text = None
quote_read (Some x) text = then_blank x.0 (1 + x.1) (blank_piece (drop (1 + x.1) text))

whole_other : (v : List ℕ) (n m : ℕ) (u : Bool) → (m == n) ≡ u → m < n → whole n (Ok (v, m)) ≡ None
whole_other v n m true e less =
    let same : m ≡ n = eqb-true m n e in
    absurd (omega arith)
whole_other v n m false e less = rw e refl

whole_by : (v : List ℕ) (n m : ℕ) (y : List ℕ) → n ≡ m + length y → whole n (Ok (v, m)) ≡ if_empty y v
whole_by v n m [] len =
    let same : m ≡ n = omega (arith, len) in
    rw (eq-eqb m n same) refl
whole_by v n m (b ∷ y) len = whole_other v n m (m == n) refl (omega (arith, len))

closed_by : (more : List ℕ) (x : List ℕ × ℕ) → Closes false more x.0 x.1
    → sized (value_of (front (34 ∷ more))) (34 ∷ more) ≡ quote_read (Some x) (34 ∷ more)
closed_by more x c =
    let inside = c.inside ++ 34 ∷ [] in
    let text : 34 ∷ more ≡ (34 ∷ inside) ++ c.rest = ap (λ t. 34 ∷ t) c.split in
    let passes = open_quote inside c.passes in
    let here = front_keeps (34 ∷ inside) c.rest passes (last_keeps (34 ∷ c.inside) 34 refl) in
    let y = front c.rest in
    let long : length ((34 ∷ inside) ++ y) ≡ 1 + x.1 + length y = omega (arith, length-append inside y, c.len) in
    let value : value_of ((34 ∷ inside) ++ y) ≡ if_empty y x.0 =
    ap (λ r. whole (length ((34 ∷ inside) ++ y)) (if_closed r)) (c.again y) ∙ whole_by x.0 (length ((34 ∷ inside) ++ y)) (1 + x.1) y long in
    let len : piece_len Outside ((34 ∷ inside) ++ c.rest) ≡ 1 + x.1 + piece_len Outside c.rest = omega (arith, passes c.rest, c.len) in
    let one : 1 + x.1 ≡ length (34 ∷ inside) = omega (arith, c.len) in
    let tail : drop (1 + x.1) (34 ∷ more) ≡ c.rest = ap (λ k. drop k (34 ∷ more)) one ∙ ap (drop (length (34 ∷ inside))) text ∙ drop-append_seam (34 ∷ inside) c.rest in
    ap (λ t. sized (value_of (front t)) t) text
    ∙ ap (λ v. sized v ((34 ∷ inside) ++ c.rest)) (ap value_of here ∙ value)
    ∙ sized_blank y x.0 ((34 ∷ inside) ++ c.rest) c.rest (1 + x.1) len
    ∙ ap (λ t. then_blank x.0 (1 + x.1) (blank_piece t)) (sym tail)

open_by : (more : List ℕ) → Open false more → sized (value_of (front (34 ∷ more))) (34 ∷ more) ≡ None
open_by more o =
    let all : piece_len Outside (34 ∷ more) ≡ length (34 ∷ more) = omega (arith, o.all) in
    let same = ap (take (length (34 ∷ more))) (sym (append-nil (34 ∷ more))) ∙ take-append_seam (34 ∷ more) [] in
    let here : front (34 ∷ more) ≡ 34 ∷ trim_end more =
    ap trim_end (ap (λ n. take n (34 ∷ more)) all ∙ same) ∙ keep_solid 34 (trim_end more) refl in
    ap (λ v. sized v (34 ∷ more)) (ap value_of here ∙ ap (λ r. whole (length (34 ∷ trim_end more)) (if_closed r)) o.trimmed)

quote_by : (more : List ℕ) (r : Option (List ℕ × ℕ)) → Found false more r
    → sized (value_of (front (34 ∷ more))) (34 ∷ more) ≡ quote_read r (34 ∷ more)
quote_by more None found = open_by more found
quote_by more (Some x) found = closed_by more x found

closed_len : (more : List ℕ) (r : Option (List ℕ × ℕ)) (v : List ℕ) (n : ℕ) → Found false more r → if_closed r ≡ Ok (v, n)
    → (sized (value_of (front (34 ∷ more))) (34 ∷ more) ≡ then_blank v n (blank_piece (drop n (34 ∷ more)))) × (n ≤ length (34 ∷ more))
closed_len more None v n found is = absurd (cc)
closed_len more (Some x) v n found is =
    let both : ◌≡◌ {A = List ℕ × ℕ} (x.0, 1 + x.1) (v, n) = cc in
    let value : x.0 ≡ v = ap (λ (y : List ℕ × ℕ). y.0) both in
    let len : 1 + x.1 ≡ n = ap (λ (y : List ℕ × ℕ). y.1) both in
    let e = closed_by more x found in
    let longer : length more ≡ length ((found.inside ++ 34 ∷ []) ++ found.rest) = ap length found.split in (
      e ∙ ap (λ k. then_blank x.0 k (blank_piece (drop k (34 ∷ more)))) len ∙ ap (λ w. then_blank w n (blank_piece (drop n (34 ∷ more)))) value,
      omega (arith, longer, length-append (found.inside ++ 34 ∷ []) found.rest, found.len, len),
    )

-- a quoted string was read
quote_found : (text : List ℕ) (v : List ℕ) (n : ℕ) → starts 34 text ≡ true → quoted text ≡ Ok (v, n)
    → (sized (value_of (front text)) text ≡ then_blank v n (blank_piece (drop n text))) × (n ≤ length text)
quote_found [] v n on is = absurd (false≢true on)
quote_found (b ∷ more) v n on is =
    let first : 34 ≡ b = sym (eqb-true b 34 on) in
    subst (λ a. (sized (value_of (front (a ∷ more))) (a ∷ more) ≡ then_blank v n (blank_piece (drop n (a ∷ more)))) × (n ≤ length (a ∷ more)))
    first (closed_len more (closing false more) v n (finds more).0 (rw on at is))

unclosed_by : (more : List ℕ) (r : Option (List ℕ × ℕ)) (fault : QuoteFault) → Found false more r → if_closed r ≡ Err fault
    → sized (value_of (front (34 ∷ more))) (34 ∷ more) ≡ None
unclosed_by more None fault found is = open_by more found
unclosed_by more (Some x) fault found is = absurd (cc)

-- none was
quote_missing : (text : List ℕ) (fault : QuoteFault) → starts 34 text ≡ true → quoted text ≡ Err fault
    → sized (value_of (front text)) text ≡ None
quote_missing [] fault on is = absurd (false≢true on)
quote_missing (b ∷ more) fault on is =
    let first : 34 ≡ b = sym (eqb-true b 34 on) in
    subst (λ a. sized (value_of (front (a ∷ more))) (a ∷ more) ≡ None)
    first (unclosed_by more (closing false more) fault (finds more).0 (rw on at is))

read_ok : (r : Result (List ℕ × ℕ) QuoteFault) (v : List ℕ) (n : ℕ) → Some (v, n) ≡ if_read r → r ≡ Ok (v, n)
read_ok (Ok x) v n is = cc
read_ok (Err fault) v n is = absurd (cc)

pub quote_within : (text v : List ℕ) (n : ℕ) → starts 34 text ≡ true → Some (v, n) ≡ if_read (quoted text) → n ≤ length text
quote_within text v n on is = (quote_found text v n on (read_ok (quoted text) v n is)).1

pub quote_value : (text v : List ℕ) (n : ℕ) → starts 34 text ≡ true → Some (v, n) ≡ if_read (quoted text)
    → then_blank v n (blank_piece (drop n text)) ≡ sized (value_of (front text)) text
quote_value text v n on is = sym (quote_found text v n on (read_ok (quoted text) v n is)).0

none_by : (text : List ℕ) (r : Result (List ℕ × ℕ) QuoteFault) → quoted text ≡ r → starts 34 text ≡ true → None ≡ if_read r
    → None ≡ sized (value_of (front text)) text
none_by text (Ok x) is on none = absurd (cc)
none_by text (Err fault) is on none = sym (quote_missing text fault on is)

pub quote_none : (text : List ℕ) → starts 34 text ≡ true → None ≡ if_read (quoted text) → None ≡ sized (value_of (front text)) text
quote_none text on none = none_by text (quoted text) refl on none
