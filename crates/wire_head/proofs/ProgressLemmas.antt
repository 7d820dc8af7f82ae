-- Heads behind heads.
use Rattle.std.proofs.Common.{◌≡◌, ℕ, suc, zero, ◌+◌, ◌-◌, ◌<◌, ◌≤◌, Bool, false, cond, List, [], ◌∷◌, length, drop, Option, Some, None, sym, ap, ◌∙◌, arith, add-zero}
use Rattle.std.proofs.lemmas.Bool.Decides.{nat_tests}
use Rattle.spaces.specs.declared.roster.Method.{Method}
use Rattle.wire_head.specs.declared.progress.Progress.{Progress}
use Rattle.wire_head.specs.declared.progress.Progress.TheVariants.{Open, Fault}
use Rattle.wire_head.specs.declared.reply.WireFault.TheVariants.{HeadTooLong}
use Rattle.wire_head.specs.Lines.{head_len}
use Rattle.wire_head.specs.Replies.{heads, first_head, front_len, is_too_long}

pub heads_skip : (method : Method) (at k : ℕ) (text : List ℕ) → k ≤ length text
    → heads method at k text ≡ heads method (at + k) 0 (drop k text)
heads_skip method at zero text within = ap (λ (n : ℕ). heads method n 0 text) (sym (add-zero at))
heads_skip method at (suc k) [] within = absurd (omega arith)
heads_skip method at (suc k) (b ∷ text) within =
    heads_skip method (at + 1) k text (omega arith)
    ∙ ap (λ (n : ℕ). heads method n 0 (drop k text)) (omega arith)

interim_first : (method : Method) (at b m : ℕ) (text : List ℕ) → head_len (b ∷ text) ≡ Some (suc m) → m ≤ length text
    → ((next : Progress) → first_head method at (b ∷ text) next ≡ next)
    → heads method at 0 (b ∷ text) ≡ heads method (at + suc m) 0 (drop m text)
interim_first method at b m text len within step =
    let back : suc m - 1 ≡ m = omega arith in
    step (heads method (at + 1) (front_len (head_len (b ∷ text)) (b ∷ text) - 1) text)
    ∙ ap (λ (n : Option ℕ). heads method (at + 1) (front_len n (b ∷ text) - 1) text) len
    ∙ ap (λ (n : ℕ). heads method (at + 1) n text) back
    ∙ heads_skip method (at + 1) m text within
    ∙ ap (λ (n : ℕ). heads method n 0 (drop m text)) (omega arith)

pub interim_step : (method : Method) (at n : ℕ) (text : List ℕ) → head_len text ≡ Some n → 0 < n → n ≤ length text
    → ((next : Progress) → first_head method at text next ≡ next)
    → heads method at 0 text ≡ heads method (at + n) 0 (drop n text)
interim_step method at zero text len some within step = absurd (omega arith)
interim_step method at (suc m) [] len some within step = absurd (omega arith)
interim_step method at (suc m) (b ∷ text) len some within step = interim_first method at b m text len (omega arith) step

short : (at : ℕ) → at ≤ 65536 → is_too_long at [] ≡ false
short at few = grind (arith, nat_tests)

pub done_step : (method : Method) (at : ℕ) (text : List ℕ) (progress : Progress) → at ≤ 65536
    → ((next : Progress) → first_head method at text next ≡ progress) → heads method at 0 text ≡ progress
done_step method at [] progress few step =
    sym (ap (λ (t : Bool). cond t (Fault HeadTooLong) (Open None)) (short at few)) ∙ step (Open None)
done_step method at (b ∷ text) progress few step =
    step (heads method (at + 1) (front_len (head_len (b ∷ text)) (b ∷ text) - 1) text)
