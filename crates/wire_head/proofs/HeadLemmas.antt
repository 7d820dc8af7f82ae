-- A head is read by its lines.
use Rattle.std.proofs.Common.{◌≡◌, ℕ, Bool, true, false, cond, List, Option, Some, None, refl, sym, ap, ◌∙◌}
use Rattle.std.specs.Prelude.{MatchOption, All, bytes_eq, nat_le, nat_lt}
use Rattle.std.specs.List.{list_all}
use Rattle.std.specs.Char.{is_ascii_digit}
use Rattle.std.proofs.Common.{◌≤◌, ◌&&◌, ◌==◌, length, arith}
use Rattle.std.proofs.lemmas.Bool.{false≢true, ltb-true}
use Rattle.std.proofs.lemmas.Bool.Decides.{nat_tests}
use Rattle.std.proofs.lemmas.List.{append-nil}
use Rattle.std.proofs.lemmas.List.Elements.{All-weaker}
use Rattle.std.proofs.lemmas.List.Sums.{AllPass-from_list_all, list_all-from_AllPass}
use Rattle.std.proofs.lemmas.Slice.Eq.{bytes_eq-Decides}
use Rattle.httparse.specs.Grammar.{Field as Row, IsField, is_token, is_token_byte, is_value_byte, reason_phrase, ResponseHead, print_response}
use Rattle.wire_head.proofs.StatusLineLemmas.{tree_again}
use Rattle.wire_head.specs.declared.response_head.ReplyHead.{ReplyHead}
use Rattle.wire_head.specs.ResponseHeads.{IsHead, IsNoHead, IsHeadRead, head_read, is_row, is_head, tree, lines, reply_head}

tree_of_head : (bytes : List ℕ) (h : ResponseHead) → IsHead bytes h → tree (lines bytes) ≡ h
tree_of_head bytes h is = tree_again bytes h is.0.0 is.0.1

both : (a b : Bool) → a && b ≡ true → (a ≡ true) × (b ≡ true)
both true b h = (refl, h)
both false b h = absurd (false≢true h)

row_is : (r : Row) → is_row r ≡ true → IsField r
row_is r is =
    let parts = both (is_token r.name) (list_all is_value_byte r.raw) is in
    let name = both (nat_lt 0 (length r.name)) (list_all is_token_byte r.name) parts.0 in
    record { name = (ltb-true 0 (length r.name) name.0, AllPass-from_list_all is_token_byte r.name name.1); raw = AllPass-from_list_all is_value_byte r.raw parts.1 }

row_of_is : (r : Row) → IsField r → is_row r ≡ true
row_of_is r is =
    let some : nat_lt 0 (length r.name) ≡ true = let h = is.name.0 in grind (arith, nat_tests) in
    rw (some, list_all-from_AllPass is_token_byte r.name is.name.1, list_all-from_AllPass is_value_byte r.raw is.raw) refl

rows_are : (rs : List Row) → list_all is_row rs ≡ true → All IsField rs
rows_are rs all = All-weaker (λ r. is_row r ≡ true) IsField row_is rs (AllPass-from_list_all is_row rs all)

rows_of : (rs : List Row) → All IsField rs → list_all is_row rs ≡ true
rows_of rs all = list_all-from_AllPass is_row rs (All-weaker IsField (λ r. is_row r ≡ true) row_of_is rs all)

is_head_of : (bytes : List ℕ) (h : ResponseHead) → IsHead bytes h → is_head bytes h ≡ true
is_head_of bytes h is =
    let w = is.0.0 in
    let minor : nat_le h.minor 1 ≡ true = let x = w.minor in grind (arith, nat_tests) in
    let three : (length h.digits == 3) ≡ true = let x = w.digits.0 in grind (arith, nat_tests) in
    let few : nat_le (length h.fields) 256 ≡ true = let x = is.1 in grind (arith, nat_tests) in
    let text : bytes_eq bytes (print_response h) ≡ true = (bytes_eq-Decides bytes (print_response h)).1 (is.0.1 ∙ append-nil (print_response h)) in
    rw (
      minor,
      three,
      list_all-from_AllPass is_ascii_digit h.digits w.digits.1,
      list_all-from_AllPass is_value_byte (reason_phrase h.reason) w.reason,
      rows_of h.fields w.fields,
      text,
      few,
    ) refl

pub head_is : (bytes : List ℕ) (h : ResponseHead) → is_head bytes h ≡ true → IsHead bytes h
head_is bytes h is =
    let a = both _ (nat_le (length h.fields) 256) is in
    let b = both _ (bytes_eq bytes (print_response h)) a.0 in
    let c = both _ (list_all is_row h.fields) b.0 in
    let d = both _ (list_all is_value_byte (reason_phrase h.reason)) c.0 in
    let e = both _ (list_all is_ascii_digit h.digits) d.0 in
    let f = both (nat_le h.minor 1) (length h.digits == 3) e.0 in
    let minor : h.minor ≤ 1 = let x = f.0 in grind (arith, nat_tests) in
    let three : length h.digits ≡ 3 = let x = f.1 in grind (arith, nat_tests) in
    let few : length h.fields ≤ 256 = let x = a.1 in grind (arith, nat_tests) in (
      (
        record {
          minor = minor;
          digits = (three, AllPass-from_list_all is_ascii_digit h.digits e.1);
          reason = AllPass-from_list_all is_value_byte (reason_phrase h.reason) d.1;
          fields = rows_are h.fields c.1;
        },
        (bytes_eq-Decides bytes (print_response h)).0 b.1 ∙ sym (append-nil (print_response h)),
      ),
      few,
    )

found : (bytes : List ℕ) (h : ResponseHead) → IsHead bytes h → reply_head bytes ≡ Some (head_read h)
found bytes h is =
    let same = tree_of_head bytes h is in
    ap (λ (t : ResponseHead). cond (is_head bytes t) (Some (head_read t)) None) same
    ∙ ap (λ (b : Bool). cond b (Some (head_read h)) None) (is_head_of bytes h is)

not_found : (bytes : List ℕ) (b : Bool) → is_head bytes (tree (lines bytes)) ≡ b → IsNoHead bytes
    → cond b (Some (head_read (tree (lines bytes)))) None ≡ None
not_found bytes true is none = absurd (none (tree (lines bytes)) (head_is bytes (tree (lines bytes)) is))
not_found bytes false is none = refl

pub read_is : (bytes : List ℕ) (read : Option ReplyHead) → MatchOption read (IsNoHead bytes) (IsHeadRead bytes) → read ≡ reply_head bytes
read_is bytes None none = sym (not_found bytes (is_head bytes (tree (lines bytes))) refl none)
read_is bytes (Some h) some = ap (λ (x : ReplyHead). Some x) some.2 ∙ sym (found bytes some.0 some.1)
