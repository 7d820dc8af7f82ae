-- The last colon, from the end.
use Rattle.std.proofs.Common.{◌≡◌, ℕ, suc, ◌+◌, ◌-◌, ◌<◌, ◌≤◌, ◌==◌, false, List, [], ◌∷◌, ◌++◌, length, take, drop, get_or, Some, None, refl, sym, ap, ◌∙◌, arith}
use Rattle.std.proofs.Math.Seq.{drop-cons}
use Rattle.std.proofs.lemmas.List.{append-nil, take-append-drop}
use Rattle.std.proofs.lemmas.Bool.Decides.{nat_tests}
use Rattle.report_reading.specs.Words.{cut_last, cut_at}

cut_append : (pre rest h p : List ℕ) → cut_last rest ≡ Some (h, p) → cut_last (pre ++ rest) ≡ Some (pre ++ h, p)
cut_append [] rest h p cut = cut
cut_append (b ∷ pre) rest h p cut = rw (cut_append pre rest h p cut) refl

at_place : (bytes : List ℕ) (n : ℕ) → 0 < n → n ≤ length bytes → drop (n - 1) bytes ≡ get_or bytes (n - 1) 0 ∷ drop n bytes
at_place bytes n some within =
    let one : suc (n - 1) ≡ n = omega arith in
    drop-cons bytes (n - 1) 0 (omega arith) ∙ ap (λ (k : ℕ). get_or bytes (n - 1) 0 ∷ drop k bytes) one

pub colon_found : (bytes : List ℕ) (n : ℕ) → 0 < n → n ≤ length bytes → get_or bytes (n - 1) 0 ≡ 58 → cut_last (drop n bytes) ≡ None
    → cut_at bytes (Some (n - 1)) ≡ cut_last bytes
colon_found bytes n some within colon none =
    let here : cut_last (drop (n - 1) bytes) ≡ Some ([], drop n bytes) = ap cut_last (at_place bytes n some within) ∙ rw (none, colon) refl in
    let all = cut_append (take (n - 1) bytes) (drop (n - 1) bytes) [] (drop n bytes) here in
    let one : n - 1 + 1 ≡ n = omega arith in
    rw one (sym (sym (ap cut_last (take-append-drop (n - 1) bytes)) ∙ all ∙ ap (λ (h : List ℕ). Some (h, drop n bytes)) (append-nil (take (n - 1) bytes))))

not_colon : (b : ℕ) → (b ≡ 58 → ⊥) → (b == 58) ≡ false
not_colon b h = grind (arith, nat_tests)

pub colon_passed : (bytes : List ℕ) (n : ℕ) → 0 < n → n ≤ length bytes → (get_or bytes (n - 1) 0 ≡ 58 → ⊥) → cut_last (drop n bytes) ≡ None
    → cut_last (drop (n - 1) bytes) ≡ None
colon_passed bytes n some within other none =
    ap cut_last (at_place bytes n some within) ∙ rw (none, not_colon (get_or bytes (n - 1) 0) other) refl
