-- The parts around the first colon of a text.
use Rattle.std.proofs.Common.{◌≡◌, ℕ, zero, suc, lit<, ◌+◌, ◌&&◌, not, IsTrue, Bool, true, false, cond, List, [], ◌∷◌, length, take, drop, is_none, Option, Some, None, Result, Ok, Err, refl, sym, ◌∙◌, ap, arith, add-one, add-zero, zero-add}
use Rattle.std.specs.List.{list_any, position_from}
use Rattle.std.proofs.Math.Seq.{take-append_seam}
use Rattle.base64.specs.Engines.{standard}
use Rattle.base64.specs.GeneralPurpose.{encode_of, IsBytes}
use Rattle.base64.proofs.EngineFacts.{decode_of-encode_of}
use Rattle.auth_text.specs.Login.{Login, login, login_text, is_login, is_control, unless_control}
use Rattle.auth_text.specs.declared.identity.IdentityFault.{IdentityFault}
use Rattle.auth_text.specs.declared.identity.IdentityFault.TheVariants.{Colon, Control as AtControl, NoMemory as Spent}
use Rattle.basic_handler.specs.declared.basic.BasicFault.{BasicFault}
use Rattle.basic_handler.specs.declared.basic.BasicFault.TheVariants.{NoColon, Control, NoMemory}
use Rattle.basic_handler.specs.Basic.{is_colon, parts_around, parts_at, read_basic}

-- so many bytes stand before a colon, and none of them is one
pub record IsSplit (n : ℕ) (text : List ℕ) : Type 0 where
  pub free : list_any is_colon (take n text) ≡ false
  pub whole : login_text (take n text) (drop (n + 1) text) ≡ text

at_colon : (x : ℕ) (text : List ℕ) → is_colon x ≡ true → IsSplit 0 (x ∷ text)
at_colon x text e = record { free = refl; whole = grind (arith, e) }

behind_byte : (x n : ℕ) (text : List ℕ) → is_colon x ≡ false → IsSplit n text → IsSplit (suc n) (x ∷ text)
behind_byte x n text e s = record {
  free = rw e s.free;
  whole = rw (add-one (suc n)) (rw (add-one n) at (ap (λ xs. x ∷ xs) s.whole));
}

abbrev Splits : List ℕ → ℕ → ℕ → Type 0
Splits text i k = (n : ℕ) × (k ≡ i + n) × IsSplit n text

by_byte : (x : ℕ) (text : List ℕ) (i k : ℕ) → (position_from is_colon (i + 1) text ≡ Some k → Splits text (i + 1) k)
    → (t : Bool) → is_colon x ≡ t → cond t (Some i) (position_from is_colon (i + 1) text) ≡ Some k → Splits (x ∷ text) i k
by_byte x text i k more true at f = (0, grind (arith, f), at_colon x text at)
by_byte x text i k more false at f =
    let r = more f in
    (suc r.0, omega (arith, r.1), behind_byte x r.0 text at r.2)

split_from : (text : List ℕ) (i k : ℕ) → position_from is_colon i text ≡ Some k → Splits text i k
split_from [] i k e = cc e
split_from (x ∷ text) i k e = by_byte x text i k (split_from text (i + 1) k) (is_colon x) refl e

split_first : (text : List ℕ) (k : ℕ) → position_from is_colon 0 text ≡ Some k → IsSplit k text
split_first text k e =
    let r = split_from text 0 k e in
    let same : r.0 ≡ k = omega (arith, r.1) in
    rw same at r.2

-- what refuses the two parts, as a refusal of the token
abbrev as_parts : Result Login IdentityFault → Result Login BasicFault
as_parts (Ok it) = Ok it
as_parts (Err Colon) = Err NoColon
as_parts (Err (AtControl at)) = Err (Control at)
as_parts (Err Spent) = Err NoMemory

at_first : (text : List ℕ) (k : ℕ) (p : Option ℕ) → as_parts (unless_control p (take k text) (drop (k + 1) text)) ≡ parts_at text k p
at_first text k None = refl
at_first text k (Some at) = refl

-- the parts around the first colon are refused for a control byte of the text alone
login_around : (text : List ℕ) (k : ℕ) → position_from is_colon 0 text ≡ Some k
    → as_parts (login (take k text) (drop (k + 1) text)) ≡ parts_at text k (position_from is_control 0 text)
login_around text k e =
    let s = split_first text k e in
    rw (s.free, s.whole) (at_first text k (position_from is_control 0 text))

pub taken_around : (text : List ℕ) (k : ℕ) (it : Login) → position_from is_colon 0 text ≡ Some k
    → login (take k text) (drop (k + 1) text) ≡ Ok it → parts_at text k (position_from is_control 0 text) ≡ Ok it
taken_around text k it e f = sym (login_around text k e) ∙ ap as_parts f

pub refused_around : (text : List ℕ) (k at : ℕ) → position_from is_colon 0 text ≡ Some k
    → login (take k text) (drop (k + 1) text) ≡ Err (AtControl at) → parts_at text k (position_from is_control 0 text) ≡ Err (Control at)
refused_around text k at e f = sym (login_around text k e) ∙ ap as_parts f

-- the first colon of user ":" password ends the user
colon_behind : (user password : List ℕ) (i : ℕ) → list_any is_colon user ≡ false
    → position_from is_colon i (login_text user password) ≡ Some (i + length user)
colon_behind [] password i free = rw add-zero refl
colon_behind (x ∷ user) password i free = grind (arith, free, colon_behind user password (i + 1))

behind_colon : (user password : List ℕ) → drop (length user + 1) (login_text user password) ≡ password
behind_colon [] password = refl
behind_colon (x ∷ user) password = grind (arith, behind_colon user password)

-- what is decoded from a token that was written reads as the two parts
text_again : (user password : List ℕ) → list_any is_colon user ≡ false → position_from is_control 0 (login_text user password) ≡ None
    → parts_around (login_text user password) (position_from is_colon 0 (login_text user password))
    ≡ Ok (record { user = user; password = password })
text_again user password free clean =
    let colon : position_from is_colon 0 (login_text user password) ≡ Some (length user) = rw zero-add at (colon_behind user password 0 free) in
    rw (colon, clean, take-append_seam user (58 ∷ password), behind_colon user password) refl

pub token_again : (user password : List ℕ) → IsBytes (login_text user password)
    → list_any is_colon user ≡ false → position_from is_control 0 (login_text user password) ≡ None
    → read_basic (encode_of standard (login_text user password)) ≡ Ok (record { user = user; password = password })
token_again user password bytes free clean =
    rw (decode_of-encode_of standard (login_text user password) refl bytes) (text_again user password free clean)

pub ruleset around = (taken_around, refused_around)

all_bytes : (user password : List ℕ) → IsBytes user → IsBytes password → IsBytes (login_text user password)
all_bytes [] password u p zero = lit< tt
all_bytes [] password u p (suc i) = p i
all_bytes (x ∷ user) password u p zero = u 0
all_bytes (x ∷ user) password u p (suc i) = all_bytes user password (λ k. u (suc k)) p i

fit_parts : (a : Bool) (p : Option ℕ) → IsTrue (not a && is_none p) → (a ≡ false) × (p ≡ None)
fit_parts false None fit = (refl, refl)
fit_parts false (Some k) fit = cc fit
fit_parts true p fit = cc fit

pub token_read_back : (user password : List ℕ) → IsBytes user → IsBytes password → IsTrue (is_login user password)
    → read_basic (encode_of standard (login_text user password)) ≡ Ok (record { user = user; password = password })
token_read_back user password u p fit =
    let parts = fit_parts (list_any is_colon user) (position_from is_control 0 (login_text user password)) fit in
    token_again user password (all_bytes user password u p) parts.0 parts.1
