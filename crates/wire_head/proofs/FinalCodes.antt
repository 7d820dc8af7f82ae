-- The code of a reply is one of three digits, and no interim one.
use Rattle.std.proofs.Common.{◌≡◌, ℕ, suc, zero, ◌-◌, ◌≤◌, ◌<◌, ◌^◌, ◌&&◌, Bool, true, false, cond, List, [], ◌∷◌, length, take, Option, Some, None, refl, ap, subst, arith}
use Rattle.std.specs.Prelude.{nat_le}
use Rattle.std.specs.List.{list_all}
use Rattle.std.specs.Char.{is_ascii_digit, digit_value}
use Rattle.std.specs.Str.Parse.{digits_value, AllDigits}
use Rattle.std.proofs.lemmas.Bool.Decides.{nat_tests}
use Rattle.std.proofs.lemmas.Int.Digits.{digits_value-lt}
use Rattle.std.proofs.lemmas.List.Sums.{list_all-from_AllPass}
use Rattle.wire_head.specs.declared.reply.Reply.{Reply}
use Rattle.wire_head.specs.declared.response_head.ReplyHead.{ReplyHead}
use Rattle.wire_head.specs.Lines.{head_len}
use Rattle.wire_head.specs.ResponseHeads.{head_read, is_head, tree, lines, reply_head}
use Rattle.wire_head.specs.Replies.{front_len, is_interim}
use Rattle.wire_head.specs.FinalHeads.{unless_interim, final_from, is_final, IsShown}
use Rattle.wire_head.proofs.HeadLemmas.{head_is}
use Rattle.wire_head.proofs.FinalHeadLemmas.{shown_carries}

split : (a b : Bool) → (a && b) ≡ true → (a ≡ true) × (b ≡ true)
split true b is = (refl, is)
split false b is = cc

some_same : {A : Type 0} {x y : A} → Some x ≡ Some y → x ≡ y
some_same is = cc

digit : (d : ℕ) → is_ascii_digit d ≡ true → digit_value d < 10
digit d is = grind (arith, nat_tests)

final_of : (code : ℕ) → code ≤ 999 → is_interim code ≡ false → is_final code ≡ true
final_of code small is =
    let few : nat_le code 999 ≡ true = grind (arith, nat_tests) in
    rw (few, is) refl

all_digits : (ds : List ℕ) → list_all is_ascii_digit ds ≡ true → AllDigits 10 ds
all_digits [] all = tt
all_digits (d ∷ ds) all = let h = split (is_ascii_digit d) (list_all is_ascii_digit ds) all in (digit d h.0, all_digits ds h.1)

-- three digits
three_digits : (ds : List ℕ) → length ds ≡ 3 → list_all is_ascii_digit ds ≡ true → digits_value 10 ds ≤ 999
three_digits ds three all =
    let small = digits_value-lt 10 ds (all_digits ds all) in
    let power : 10 ^ length ds ≡ 1000 = ap (λ n. 10 ^ n) three in
    omega (arith, small, power)

code_is : (bytes : List ℕ) (h : ReplyHead) (t : Bool) → is_head bytes (tree (lines bytes)) ≡ t
    → cond t (Some (head_read (tree (lines bytes)))) None ≡ Some h → h.code ≤ 999
code_is bytes h true is found =
    let head = head_is bytes (tree (lines bytes)) is in
    let same : head_read (tree (lines bytes)) ≡ h = some_same found in
    subst (λ x. x.code ≤ 999) same (three_digits (tree (lines bytes)).digits head.0.0.digits.0 (list_all-from_AllPass is_ascii_digit (tree (lines bytes)).digits head.0.0.digits.1))
code_is bytes h false is found = cc

either_final : (final later : Option ReplyHead) (h : ReplyHead) → ((g : ReplyHead) → final ≡ Some g → g.code ≤ 999)
    → (later ≡ Some h → is_final h.code ≡ true) → unless_interim final later ≡ Some h → is_final h.code ≡ true
either_final None later h small behind found = cc
either_final (Some g) later h small behind found = by_test (is_interim g.code) refl found
  where
    by_test : (x : Bool) → is_interim g.code ≡ x → cond x later (Some g) ≡ Some h → is_final h.code ≡ true
    by_test true is found_ = behind found_
    by_test false is found_ = subst (λ x. is_final x.code ≡ true) (some_same found_) (final_of g.code (small g refl) is)

final_code : (skip : ℕ) (text : List ℕ) (h : ReplyHead) → final_from skip text ≡ Some h → is_final h.code ≡ true
final_code skip [] h found = cc
final_code (suc skip) (b ∷ text) h found = final_code skip text h found
final_code zero (b ∷ text) h found =
    let front = take (front_len (head_len (b ∷ text)) (b ∷ text)) (b ∷ text) in
    either_final (reply_head front) (final_from (front_len (head_len (b ∷ text)) (b ∷ text) - 1) text) h
    (λ g is. code_is front g (is_head front (tree (lines front))) refl is)
    (final_code (front_len (head_len (b ∷ text)) (b ∷ text) - 1) text h) found

pub shown_final : (text : List ℕ) (r : Reply) → IsShown text r → is_final r.code ≡ true
shown_final text r shown =
    let is = shown_carries text r shown in
    let final = final_code 0 text is.0 is.1 in
    rw is.2.same_code final
