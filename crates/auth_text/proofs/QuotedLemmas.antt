-- A quoted string reads as the value written.
use Rattle.std.proofs.Common.{◌≡◌, ℕ, ◌+◌, ◌==◌, ◌||◌, Bool, true, false, cond, List, [], ◌∷◌, ◌++◌, length, Option, Some, None, Ok, refl, ◌∙◌, ap, arith, append_assoc, length-append}
use Rattle.std.specs.List.{flat_map}
use Rattle.auth_text.specs.Quoted.{behind, closing, quoted, escaped_byte, quoted_text, if_closed}

twice : (b : ℕ) (r : Option (List ℕ × ℕ)) → behind [] 1 (behind (b ∷ []) 1 r) ≡ behind (b ∷ []) 2 r
twice b None = refl
twice b (Some x) = ap (λ n. Some (b ∷ x.0, n)) (omega arith)

byte_again : (b : ℕ) (rest : List ℕ) (p q : Bool) → (b == 34) ≡ p → (b == 92) ≡ q
    → closing false (cond (p || q) (92 ∷ b ∷ []) (b ∷ []) ++ rest)
    ≡ behind (b ∷ []) (length (cond (p || q) (92 ∷ b ∷ []) (b ∷ []))) (closing false rest)
byte_again b rest true q e f = twice b (closing false rest)
byte_again b rest false true e f = twice b (closing false rest)
byte_again b rest false false e f = rw (e, f) refl

closing_again : (value more : List ℕ)
    → closing false (flat_map escaped_byte value ++ (34 ∷ more)) ≡ Some (value, length (flat_map escaped_byte value) + 1)
closing_again [] more = refl
closing_again (b ∷ value) more =
    let rest = closing_again value more in
    let first = byte_again b (flat_map escaped_byte value ++ (34 ∷ more)) (b == 34) (b == 92) refl refl in
    rw (append_assoc, first, rest)
    (ap (λ n. Some (b ∷ value, n)) (omega (arith, length-append (escaped_byte b) (flat_map escaped_byte value))))

pub quoted_again : (value more : List ℕ) → quoted (quoted_text value ++ more) ≡ Ok (value, length (quoted_text value))
quoted_again value more =
    let inside = flat_map escaped_byte value in
    let read = ap (closing false) (append_assoc inside (34 ∷ []) more) ∙ closing_again value more in
    ap if_closed read ∙ ap (λ n. Ok (value, n)) (omega (arith, length-append inside (34 ∷ [])))
